use Rattle.std.proofs.lemmas.Option.{slice_get-get_or}
use Rattle.rb_agree.proofs.Ruling.{rule-fails, rule-passes, rules-done}
use Rattle.rb_agree.proofs.rules.rules_fault.Goals as goal

pub loop-rule-init : goal.loop-rule-init
loop-rule-init c = λ r found. found

pub loop-rule-preserved : goal.loop-rule-preserved
loop-rule-preserved c =
    rule-passes c.args.program.now c.args.layouts.now c.args.rules.now c.loop-rule.rule-index _ (slice_get-get_or c.args.rules.now c.loop-rule.rule-index _ c.loop-rule-test.true) c.in_ok-refused.field-0 c.in_ok-refused.ensures
    c.loop-rule.invariant c.in_default.is

pub returns-in-Some : goal.returns-in-Some
returns-in-Some c =
    rule-fails c.args.program.now c.args.layouts.now c.args.rules.now c.loop-rule.rule-index _ (slice_get-get_or c.args.rules.now c.loop-rule.rule-index _ c.loop-rule-test.true) c.in_ok-refused.field-0 c.in_ok-refused.ensures
    c.loop-rule.invariant c.in-Some.refused c.in-Some.is

pub returns : goal.returns
returns c = rules-done c.args.program.now c.args.layouts.now c.args.rules.now c.loop-rule.rule-index c.loop-rule-test.false c.loop-rule.invariant
