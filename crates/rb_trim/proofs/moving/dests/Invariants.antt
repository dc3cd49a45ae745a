use Rattle.std.proofs.Common.{take}
use Rattle.rb_trim.specs.inner.Moving.{AreDests}
use Rattle.rb_trim.proofs.moving.dests.Given as goal

abbrev pub invariant-loop-slot : goal.invariant-loop-slot
invariant-loop-slot l = AreDests l.hints (take l.slot-index l.slots) l.new
