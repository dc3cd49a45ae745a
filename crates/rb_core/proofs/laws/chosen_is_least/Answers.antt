use Rattle.rb_core.proofs.MatchingLemmas.{chosen-is}
use Rattle.rb_core.proofs.laws.chosen_is_least.Goals as goal

pub returns : goal.returns
returns c = chosen-is
