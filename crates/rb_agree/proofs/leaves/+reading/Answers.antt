use Rattle.std.proofs.Common.{◌++◌}
use Rattle.std.specs.List.{flat_map}
use Rattle.std.proofs.lemmas.Result.{on_ok_weaker}
use Rattle.rb_core.specs.Layouts.{leaves_under}
use Rattle.rb_agree.specs.inner.Leaves.{items_under, shown_leaves}
use Rattle.rb_agree.proofs.Reading.{arm-added, arms-end, else-added, split-added}
use Rattle.rb_agree.proofs.leaves.+reading.Goals as goal

pub add_arms-loop-arm-preserved : goal.add_arms-loop-arm-preserved
add_arms-loop-arm-preserved t c =
    arm-added c.args.arms.now c.loop-arm.arm-index c.arm-item.result (shown_leaves c.loop-arm.out) (shown_leaves c.add_tree.new.out)
    (shown_leaves c.args.out.now ++ items_under (flat_map leaves_under c.args.arms.now)) c.loop-arm-test.true c.arm-item.is c.in_ok-add_tree.ensures c.loop-arm.invariant

pub add_arms-returns : goal.add_arms-returns
add_arms-returns t c =
    arms-end c.args.arms.now c.loop-arm.arm-index (shown_leaves c.loop-arm.out) (shown_leaves c.args.out.now ++ items_under (flat_map leaves_under c.args.arms.now)) c.loop-arm-test.false c.loop-arm.invariant

pub add_tree-returns-in-None : goal.add_tree-returns-in-None
add_tree-returns-in-None t c =
    split-added c.args.out.now c.add_arms.new.out c.args.tree.now c.in-Split.field-0 c.in-Split.arms c.as_slice-in-Split.result.now c.in-Split.other c.in-Split.is c.in-None.is c.as_slice-in-Split.ensures
    c.in_ok-add_arms-in-Split.ensures

pub add_tree-returns-in-Some : goal.add_tree-returns-in-Some
add_tree-returns-in-Some t c =
    on_ok_weaker c.add_tree.result
    (λ rest. else-added c.args.out.now c.add_arms.new.out c.add_tree.new.out c.args.tree.now c.in-Split.field-0 c.in-Split.arms c.as_slice-in-Split.result.now c.in-Split.other c.in-Some.tree c.get.result.now
    c.in-Split.is c.in-Some.is c.as_slice-in-Split.ensures c.get.ensures c.in_ok-add_arms-in-Split.ensures rest) c.add_tree.ensures
