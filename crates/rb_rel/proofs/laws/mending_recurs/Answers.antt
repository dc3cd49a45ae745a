use Rattle.rb_layout.specs.Flattening.{flat_layouts}
use Rattle.rb_rel.proofs.Mending.{mending_recurs}
use Rattle.rb_rel.proofs.laws.mending_recurs.Goals as goal

pub returns : goal.returns
returns c = λ p agrees t. mending_recurs (flat_layouts p) agrees.a9 t
