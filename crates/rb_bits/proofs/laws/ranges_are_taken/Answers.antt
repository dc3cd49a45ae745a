use Rattle.rb_bits.proofs.RangeLemmas.{taken_are}
use Rattle.rb_bits.proofs.laws.ranges_are_taken.Goals as goal

pub returns : goal.returns
returns c = taken_are
