use Rattle.std.proofs.Common.{arith}
use Rattle.rb_auto.proofs.Settling.{first-settled}
use Rattle.rb_auto.proofs.rooms.first_rooms.Goals as goal

pub returns : goal.returns
returns c =
    first-settled c.args.program.now c.args.kinds.now c.loop-t.settled
    (record { count = (let a = c.loop-t.invariant.count in let b = c.len-t-end.ensures in omega arith); each = c.loop-t.invariant.each })
