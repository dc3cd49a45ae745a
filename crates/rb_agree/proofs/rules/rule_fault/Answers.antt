use Rattle.rb_agree.proofs.Ruling.{layout-fails, layout-passes, types-done}
use Rattle.rb_agree.proofs.rules.rule_fault.Goals as goal

pub loop-t-init : goal.loop-t-init
loop-t-init c = λ r found. found

pub loop-t-preserved : goal.loop-t-preserved
loop-t-preserved c =
    layout-passes c.args.program.now c.args.layouts.now c.args.rule c.loop-t.t c.in_ok-ty.ty c.index-layouts-t.result c.in_ok-refused.field-0
    c.loop-t-test.true c.index-layouts-t.is c.in_ok-ty.ensures c.in_ok-refused.ensures c.in_default.is c.loop-t.invariant

pub returns-in-Some : goal.returns-in-Some
returns-in-Some c =
    layout-fails c.args.program.now c.args.layouts.now c.args.rule c.loop-t.t c.in_ok-ty.ty c.index-layouts-t.result c.in_ok-refused.field-0 c.in-Some.refused
    c.loop-t-test.true c.index-layouts-t.is c.in_ok-ty.ensures c.in_ok-refused.ensures c.in-Some.is c.loop-t.invariant

pub returns : goal.returns
returns c = types-done c.args.program.now c.args.layouts.now c.args.rule c.loop-t.t c.loop-t-test.false c.loop-t.invariant
