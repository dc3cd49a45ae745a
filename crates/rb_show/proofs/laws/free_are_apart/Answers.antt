use Rattle.rb_show.proofs.Order.{free_are_apart}
use Rattle.rb_show.proofs.laws.free_are_apart.Goals as goal

pub returns : goal.returns
returns c = free_are_apart
