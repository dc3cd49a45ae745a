use Rattle.std.proofs.Common.{arith}
use Rattle.rb_trim.proofs.Fitting.{names_more}
use Rattle.rb_trim.proofs.moving.names.Goals as goal

pub loop-slot-preserved : goal.loop-slot-preserved
loop-slot-preserved c =
    rw c.in_ok-push.ensures.ok
    (names_more c.args.hints.now c.args.facts.now c.args.pc c.args.slots.now c.loop-slot.new c.loop-slot.slot-index c.in_ok-found.found (omega arith) c.loop-slot.invariant c.in_ok-found.ensures)
