use Rattle.rb_bytes.proofs.GrowthLemmas.{address_small}
use Rattle.rb_bytes.proofs.laws.bases_are_small.Goals as goal

pub returns : goal.returns
returns c = address_small
