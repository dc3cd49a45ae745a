use Rattle.std.proofs.Common.{◌≡◌, ◌||◌, length}
use Rattle.rb_layout.specs.inner.Barring.{AreAsked}
use Rattle.rb_layout.specs.inner.Settling.{after_looks, changes}
use Rattle.rb_layout.proofs.settling.pass.Given as goal

abbrev pub invariant-loop-i : goal.invariant-loop-i
invariant-loop-i l = record {
  asked : AreAsked l.entries;
  result : changes l.types l.layouts (length l.fn.entries) l.fn.entries ≡ (l.changed || changes l.types l.layouts l.i l.entries);
  new : after_looks l.types l.layouts (length l.fn.entries) l.fn.entries ≡ after_looks l.types l.layouts l.i l.entries;
}
