use Rattle.rb_core.proofs.MoreCalls.{call-longer}
use Rattle.rb_core.proofs.laws.more_calls_go_on.Goals as goal

pub returns : goal.returns
returns c = λ p g n more vs. call-longer more p g n vs
