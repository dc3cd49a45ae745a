use Rattle.std.proofs.Common.{List, Option, sym, ap, subst, ◌∙◌}
use Rattle.rb_layout.specs.declared.layout.FlatTree as F
use Rattle.rb_layout.specs.declared.layout.FlatTree.{FlatTree}
use Rattle.rb_layout.specs.declared.layout.FlatArm.{FlatArm}
use Rattle.rb_layout.specs.Splits.{routes_of}
use Rattle.rb_agree.specs.inner.Passing.{AreWalked}
use Rattle.rb_agree.proofs.Walking.{walked-all, walked-else, walked-more, walked-none, walked-split}
use Rattle.rb_agree.proofs.passing.+walking.Goals as goal

pub walk_arms-loop-arm-init : goal.walk_arms-loop-arm-init
walk_arms-loop-arm-init t c = walked-none c.args.types.now c.args.layouts.now c.args.leaves.now _ c.args.marks.now

pub walk_arms-loop-arm-preserved : goal.walk_arms-loop-arm-preserved
walk_arms-loop-arm-preserved t c =
    walked-more c.args.types.now c.args.layouts.now c.args.leaves.now c.args.loc.now c.args.arms.now c.loop-arm.arm-index c.arm-item.result c.loop-arm.span c.in_ok-under.under c.joined_span-span.result
    c.args.marks.now c.loop-arm.marks c.walk_tree.new.marks c.ask_all.new.marks c.loop-arm-test.true c.arm-item.is c.loop-arm.invariant c.in_ok-under.ensures c.in_ok-ask_all.ensures
    c.joined_span-span.ensures.one c.joined_span-span.ensures.other

pub walk_arms-returns : goal.walk_arms-returns
walk_arms-returns t c =
    walked-all c.args.types.now c.args.layouts.now c.args.leaves.now c.args.loc.now c.args.arms.now c.loop-arm.arm-index c.loop-arm.span c.args.marks.now c.loop-arm.marks
    c.loop-arm-test.false c.loop-arm.invariant

pub walk_tree-returns-in-None : goal.walk_tree-returns-in-None
walk_tree-returns-in-None t c =
    walked-split c.args.types.now c.args.layouts.now c.args.leaves.now c.args.tree.now c.in-Split.loc c.as_slice-arms.result.now c.in_ok-span-in-Split.span c.args.marks.now c.walk_arms.new.marks
    (c.in-Split.is ∙ ap (λ (xs : List FlatArm). F.Split c.in-Split.loc xs c.in-Split.other) (sym c.as_slice-arms.ensures)
    ∙ ap (λ (o : Option FlatTree). F.Split c.in-Split.loc c.as_slice-arms.result.now o) c.in-None.is)
    c.in_ok-span-in-Split.ensures

pub walk_tree-returns-in_ok-ask_all-in-Some : goal.walk_tree-returns-in_ok-ask_all-in-Some
walk_tree-returns-in_ok-ask_all-in-Some t c =
    walked-else c.args.types.now c.args.layouts.now c.args.leaves.now c.args.tree.now c.in-Split.loc c.as_slice-arms.result.now c.in-Some.tree c.in_ok-span-in-Split.span c.in_ok-under-in-Some.under c.joined_span.result
    c.args.marks.now c.walk_arms.new.marks c.walk_tree.new.marks c.ask_all.new.marks
    (c.in-Split.is ∙ ap (λ (xs : List FlatArm). F.Split c.in-Split.loc xs c.in-Split.other) (sym c.as_slice-arms.ensures)
    ∙ ap (λ (o : Option FlatTree). F.Split c.in-Split.loc c.as_slice-arms.result.now o) c.in-Some.is)
    c.in_ok-span-in-Split.ensures
    (subst (λ (x : FlatTree). AreWalked c.args.types.now c.args.layouts.now c.args.leaves.now (routes_of x) c.in_ok-under-in-Some.under c.walk_arms.new.marks c.walk_tree.new.marks) c.get.ensures c.in_ok-under-in-Some.ensures)
    c.in_ok-ask_all-in-Some.ensures c.joined_span.ensures.one c.joined_span.ensures.other
