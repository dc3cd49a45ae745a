use Rattle.rb_layout.specs.Flattening.{flat_layouts}
use Rattle.rb_rel.proofs.Agreeing.{lawful}
use Rattle.rb_rel.proofs.Leading.{leads}
use Rattle.rb_rel.proofs.laws.splits_lead_to_the_leaf.Goals as goal

pub returns : goal.returns
returns c = λ p typed agrees m clean good t v ws layout is r. leads p.types (flat_layouts p) m clean good (lawful p agrees typed) t v ws layout is r
