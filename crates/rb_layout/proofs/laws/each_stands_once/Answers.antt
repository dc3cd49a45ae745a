use Rattle.rb_layout.proofs.Placing.{each_stands_once}
use Rattle.rb_layout.proofs.laws.each_stands_once.Goals as goal

pub returns : goal.returns
returns c = each_stands_once
