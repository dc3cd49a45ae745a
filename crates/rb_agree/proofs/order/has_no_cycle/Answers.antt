use Rattle.rb_agree.proofs.Falling.{found-order}
use Rattle.rb_agree.proofs.order.has_no_cycle.Goals as goal

pub returns : goal.returns
returns c = found-order c.args.graph.now c.as_slice.result.now c.falls.result c.falls.ensures
