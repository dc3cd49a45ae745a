use Rattle.rb_syntax.proofs.FrontLemmas.{is-front}
use Rattle.rb_syntax.proofs.front.fronts_are_right.Goals as goal

pub returns : goal.returns
returns c = is-front
