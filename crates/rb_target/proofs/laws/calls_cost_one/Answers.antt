use Rattle.rb_target.proofs.Calling.{calls_are}
use Rattle.rb_target.proofs.laws.calls_cost_one.Goals as goal

pub returns : goal.returns
returns c = calls_are
