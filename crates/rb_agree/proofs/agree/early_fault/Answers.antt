use Rattle.rb_agree.proofs.Agreeing.{early-ready}
use Rattle.rb_agree.proofs.agree.early_fault.Goals as goal

pub rules_fault-requires-clause-ready : goal.rules_fault-requires-clause-ready
rules_fault-requires-clause-ready c = early-ready c.args.layouts.now
