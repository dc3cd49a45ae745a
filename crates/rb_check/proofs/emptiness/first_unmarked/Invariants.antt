use Rattle.std.proofs.Common.{◌≡◌, ℕ, ◌<◌, true}
use Rattle.rb_check.specs.inner.Emptiness.{mark_of}
use Rattle.rb_check.proofs.emptiness.first_unmarked.Given as goal

abbrev pub invariant-loop-t : goal.invariant-loop-t
invariant-loop-t l = (s : ℕ) → s < l.t → mark_of l.marks s ≡ true
