use Rattle.rb_bits.proofs.RangeLemmas.{put_are}
use Rattle.rb_bits.proofs.laws.ranges_are_put.Goals as goal

pub returns : goal.returns
returns c = put_are
