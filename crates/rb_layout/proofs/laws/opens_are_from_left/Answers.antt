use Rattle.rb_layout.proofs.FromLeft.{opens_are_from_left}
use Rattle.rb_layout.proofs.laws.opens_are_from_left.Goals as goal

pub returns : goal.returns
returns c = opens_are_from_left
