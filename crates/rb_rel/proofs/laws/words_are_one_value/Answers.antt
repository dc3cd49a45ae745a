use Rattle.rb_layout.specs.Flattening.{flat_layouts}
use Rattle.rb_rel.proofs.Agreeing.{lawful}
use Rattle.rb_rel.proofs.Unique.{unique}
use Rattle.rb_rel.proofs.laws.words_are_one_value.Goals as goal

pub returns : goal.returns
returns c = λ p typed agrees m clean good ty v u ws r s. unique p.types (flat_layouts p) m clean good (lawful p agrees typed) r u s
