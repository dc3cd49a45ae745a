use Rattle.rb_fragment.proofs.Adding.{Adds-refl, Adds-trans}
use Rattle.rb_fragment.proofs.laws.additions_compose.Goals as goal

pub returns-clause-none : goal.returns-clause-none
returns-clause-none c = Adds-refl

pub returns-clause-two : goal.returns-clause-two
returns-clause-two c = Adds-trans
