use Rattle.rb_bytes.proofs.GrowthLemmas.{growth_is}
use Rattle.rb_bytes.proofs.laws.growth_keeps_all.Goals as goal

pub returns : goal.returns
returns c = growth_is
