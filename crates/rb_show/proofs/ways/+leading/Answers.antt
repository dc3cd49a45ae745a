use Rattle.std.proofs.Common.{ap, ◌∙◌, ◌++◌, arith}
use Rattle.std.proofs.lemmas.List.{take_all}
use Rattle.rb_layout.specs.declared.layout.FlatTree as T
use Rattle.rb_layout.specs.Splits.{Is, IsNone}
use Rattle.rb_show.specs.Lines.{condition_line}
use Rattle.rb_show.specs.inner.Ways.{literals_in, ways_behind}
use Rattle.rb_show.proofs.Leading.{arms_next, arms_routes, behind_kept, no_else, restored, with_else}
use Rattle.rb_show.proofs.ways.+leading.Goals as goal

pub loop-arm-preserved : goal.loop-arm-preserved
loop-arm-preserved n c =
    let above = c.args.above.now.items in
    let line = condition_line (Is c.in-Split.loc c.arm-item.result.literal) in
    let kept = c.loop-arm.invariant.above in
    record {
      ways = arms_next c.in-Split.loc c.as_slice-arm-items.result.now c.loop-arm.arm-index c.arm-item.result above c.push_is.new.text.items _ _ _ c.loop-arm-test.true c.arm-item.is
          (behind_kept above c.loop-arm.above.items c.push_is.new.text.items line c.in_ok-push_is-in-Split.ensures kept) c.loop-arm.invariant.ways c.in_ok-push_ways-in-Split.ensures.ways;
      above = restored c.len-many.result above c.loop-arm.above.items c.push_is.new.text.items c.push_ways.new.above.items c.truncate.new.self.items line
          (omega (arith, c.len-many.ensures, c.loop-arm.above.ok.0)) c.in_ok-push_is-in-Split.ensures c.in_ok-push_ways-in-Split.ensures.above c.truncate.ensures.items kept;
    }

pub returns-in-None-clause-ways : goal.returns-in-None-clause-ways
returns-in-None-clause-ways n c =
    let all = take_all c.loop-arm.arm-index c.as_slice-arm-items.result.now (omega (arith, c.loop-arm-test.false)) ∙ c.as_slice-arm-items.ensures in
    no_else c.args.tree.now c.in-Split.loc c.in-Split.arms c.args.above.now.items c.args.ways.now c.loop-arm.ways
    (c.in-Split.is ∙ ap (λ o. T.Split c.in-Split.loc c.in-Split.arms o) c.in-None.is)
    (c.loop-arm.invariant.ways ∙ ap (λ arms. c.args.ways.now ++ ways_behind c.args.above.now.items (arms_routes c.in-Split.loc arms)) all)

pub returns-in_ok-push_ways-in-Some-clause-ways : goal.returns-in_ok-push_ways-in-Some-clause-ways
returns-in_ok-push_ways-in-Some-clause-ways n c =
    let all = take_all c.loop-arm.arm-index c.as_slice-arm-items.result.now (omega (arith, c.loop-arm-test.false)) ∙ c.as_slice-arm-items.ensures in
    let line = condition_line (IsNone c.in-Split.loc (literals_in c.in-Split.arms)) in
    with_else c.args.tree.now c.in-Split.loc c.in-Split.arms c.in-Some.other c.args.above.now.items c.push_is_none.new.text.items c.args.ways.now c.loop-arm.ways c.push_ways-in-Some.new.ways
    (c.in-Split.is ∙ ap (λ o. T.Split c.in-Split.loc c.in-Split.arms o) c.in-Some.is)
    (c.loop-arm.invariant.ways ∙ ap (λ arms. c.args.ways.now ++ ways_behind c.args.above.now.items (arms_routes c.in-Split.loc arms)) all)
    (behind_kept c.args.above.now.items c.loop-arm.above.items c.push_is_none.new.text.items line (rw c.as_slice-in-Some.ensures at c.in_ok-push_is_none-in-Some.ensures) c.loop-arm.invariant.above)
    (rw c.get.ensures at c.in_ok-push_ways-in-Some.ensures.ways)
