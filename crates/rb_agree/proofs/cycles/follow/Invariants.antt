use Rattle.std.proofs.Common.{◌≡◌, ◌<◌, ℕ, Some, drop}
use Rattle.std.specs.Prelude.{slice_get}
use Rattle.rb_agree.specs.inner.Ways.{with_all_found, state}
use Rattle.rb_agree.proofs.cycles.follow.Given as goal

abbrev pub invariant-loop-next : goal.invariant-loop-next
invariant-loop-next l = record {
  added : with_all_found l.way (drop l.next-index l.edges) (state l.marks l.found) ≡ with_all_found l.way l.edges (state l.fn.marks l.fn.found);
  before : (k s : ℕ) → k < l.next-index → slice_get l.edges k ≡ Some s → s ≡ l.start → ⊥;
}
