use Rattle.std.proofs.Common.{List, Option}
use Rattle.rb_core.specs.declared.types.Auto.{Auto}
use Rattle.rb_auto.specs.inner.Settling.{AreSettled}
use Rattle.rb_auto.proofs.rooms.settle.Given as goal

abbrev pub invariant-loop-turn : goal.invariant-loop-turn
invariant-loop-turn l = (kinds : List (Option Auto)) → AreSettled l.program kinds l.fn.settled → AreSettled l.program kinds l.settled
