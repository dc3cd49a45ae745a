use Rattle.std.proofs.Common.{◌≡◌, ℕ, true, length}
use Rattle.rb_core.specs.TypedPrograms.{HasValue}
use Rattle.rb_check.specs.inner.Emptiness.{mark_of}
use Rattle.rb_check.proofs.EmptinessLemmas.{unmarked_count}
use Rattle.rb_check.proofs.emptiness.first_empty.Given as goal

abbrev pub invariant-loop-t : goal.invariant-loop-t
invariant-loop-t l = record {
  same_length : length l.marks.items ≡ length l.types;
  sound : (t : ℕ) → mark_of l.marks.items t ≡ true → HasValue l.types t;
}

abbrev pub decreases-loop-t : goal.decreases-loop-t
decreases-loop-t l = unmarked_count l.marks.items
