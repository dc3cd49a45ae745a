use Rattle.rb_rel.proofs.Existence.{represented}
use Rattle.rb_rel.proofs.laws.values_have_words.Goals as goal

pub returns : goal.returns
returns c = λ p typed agrees m good ty v of_type blocks next e. represented p typed agrees ty v m good of_type blocks next e
