use Rattle.rb_show.proofs.Order.{pieces_ascend}
use Rattle.rb_show.proofs.laws.pieces_ascend.Goals as goal

pub returns : goal.returns
returns c = pieces_ascend
