use Rattle.rb_core.proofs.CallLaws.{call-runs}
use Rattle.rb_core.proofs.laws.calls_run_bodies.Goals as goal

pub returns : goal.returns
returns c = call-runs
