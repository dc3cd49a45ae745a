use Rattle.rb_bits.proofs.RangeLemmas.{gathers_back}
use Rattle.rb_bits.proofs.laws.slices_gather_back.Goals as goal

pub returns : goal.returns
returns c = gathers_back
