use Rattle.rb_layout.specs.Flattening.{flat_layouts}
use Rattle.rb_rel.proofs.Agreeing.{lawful}
use Rattle.rb_rel.proofs.Typing.{Represents-typed}
use Rattle.rb_rel.proofs.laws.represented_values_are_typed.Goals as goal

pub returns : goal.returns
returns c = λ p typed agrees m clean ty v ws r. Represents-typed p.types (flat_layouts p) m clean (lawful p agrees typed).provenances r
