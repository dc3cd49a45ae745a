use Rattle.rb_layout.specs.inner.Barring.{AreAsked}
use Rattle.rb_layout.specs.inner.Finding.{KeepsGoals}
use Rattle.rb_layout.specs.inner.Settling.{AreTrue, entries_left}
use Rattle.rb_layout.proofs.settling.settle.Given as goal

abbrev pub invariant-loop : goal.invariant-loop
invariant-loop l = record {
  asked : AreAsked l.entries;
  keeps : KeepsGoals l.fn.entries l.entries;
  true_ones : AreTrue l.types l.layouts l.fn.entries → AreTrue l.types l.layouts l.entries;
}

abbrev pub decreases-loop : goal.decreases-loop
decreases-loop l = entries_left l.entries
