use Rattle.std.proofs.Common.{arith}
use Rattle.rb_trim.proofs.Fitting.{dests_more}
use Rattle.rb_trim.proofs.moving.dests.Goals as goal

pub loop-slot-preserved : goal.loop-slot-preserved
loop-slot-preserved c =
    rw c.in_ok-push.ensures.ok
    (dests_more c.args.hints.now c.args.slots.now c.loop-slot.new c.loop-slot.slot-index c.in_ok-found.found (omega arith) c.loop-slot.invariant c.in_ok-found.ensures)
