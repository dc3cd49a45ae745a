use Rattle.rb_rel.proofs.Clean.{Represents-clean}
use Rattle.rb_rel.proofs.laws.clean_representations_represent.Goals as goal

pub returns : goal.returns
returns c = λ types layouts m ty v ws r. Represents-clean types layouts m r
