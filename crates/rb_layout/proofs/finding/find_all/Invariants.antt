use Rattle.std.proofs.Common.{◌≡◌, ℕ, ◌<◌, Some}
use Rattle.std.specs.Prelude.{slice_get}
use Rattle.rb_layout.specs.declared.goals.Entry.{Entry}
use Rattle.rb_layout.specs.inner.Barring.{AreAsked}
use Rattle.rb_layout.specs.inner.Finding.{AreFresh, KeepsGoals, HasBelow}
use Rattle.rb_layout.proofs.finding.find_all.Given as goal

abbrev pub invariant-loop-i : goal.invariant-loop-i
invariant-loop-i l = record {
  asked : AreAsked l.entries;
  fresh : AreFresh l.entries;
  keeps : KeepsGoals l.fn.entries l.entries;
  below : (k : ℕ) (e : Entry) → k < l.i → slice_get l.entries k ≡ Some e → HasBelow l.types l.layouts l.entries e.goal;
}
