use Rattle.rb_agree.proofs.Agreeing.{early-found, late-found, ready-late}
use Rattle.rb_agree.proofs.agree.layouts_fault.Goals as goal

pub returns-in-Some : goal.returns-in-Some
returns-in-Some c = early-found c.args.program.now c.args.layouts.now c.in_ok-refused.field-0 c.in-Some.refused c.in_ok-refused.ensures c.in-Some.is

pub late_fault-requires-clause-ready : goal.late_fault-requires-clause-ready
late_fault-requires-clause-ready c =
    ready-late c.args.program.now c.args.layouts.now c.in_ok-refused.field-0 c.requires.typed c.requires.shapes c.requires.order c.in_ok-refused.ensures c.in_default.is

pub returns : goal.returns
returns c = late-found c.args.program.now c.args.layouts.now c.in_ok-refused.field-0 c.in_ok-refused.ensures c.in_default.is c.late_fault.result c.late_fault.ensures
