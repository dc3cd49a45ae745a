use Rattle.rb_rel.proofs.Existence.{all_represented}
use Rattle.rb_rel.proofs.laws.lists_have_words.Goals as goal

pub returns : goal.returns
returns c = λ p typed agrees m good ts vs of_types blocks next e. all_represented p typed agrees ts vs m good of_types blocks next e
