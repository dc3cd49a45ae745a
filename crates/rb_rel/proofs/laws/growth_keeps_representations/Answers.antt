use Rattle.rb_rel.proofs.Growth.{Represents-kept}
use Rattle.rb_rel.proofs.laws.growth_keeps_representations.Goals as goal

pub returns : goal.returns
returns c = λ types layouts clean old new extends ty v ws r. Represents-kept old new extends types layouts clean r
