use Rattle.rb_fragment.proofs.Calling.{call_applies}
use Rattle.rb_fragment.proofs.laws.calls_apply.Goals as goal

pub returns : goal.returns
returns c = call_applies
