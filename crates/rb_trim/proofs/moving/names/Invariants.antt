use Rattle.std.proofs.Common.{take}
use Rattle.rb_trim.specs.inner.Moving.{AreNames}
use Rattle.rb_trim.proofs.moving.names.Given as goal

abbrev pub invariant-loop-slot : goal.invariant-loop-slot
invariant-loop-slot l = AreNames l.hints l.facts l.pc (take l.slot-index l.slots) l.new
