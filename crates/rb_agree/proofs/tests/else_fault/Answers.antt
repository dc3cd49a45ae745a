use Rattle.rb_layout.specs.declared.layout.FlatArm.{FlatArm}
use Rattle.rb_layout.specs.Excluded.{Excludes}
use Rattle.rb_agree.proofs.Lists.{before-more, before-all, at-item}
use Rattle.rb_agree.proofs.Testing.{all-excluded, literal-at, resolves}
use Rattle.rb_agree.proofs.tests.else_fault.Goals as goal

pub returns-then-not-branch : goal.returns-then-not-branch
returns-then-not-branch c = (
  c.in_ok-copy-2.ensures,
  literal-at c.args.arms.now c.loop-arm.arm-index c.arm-item.result (at-item c.args.arms.now c.loop-arm.arm-index c.arm-item.result c.loop-arm-test.true c.arm-item.is),
  λ ex. absurd (cc (c.in_ok-is_excluded.ensures.1 ex, c.if-not-branch.true)),
)

pub loop-arm-preserved : goal.loop-arm-preserved
loop-arm-preserved c =
    before-more (λ (a : FlatArm). Excludes c.args.types.now c.args.layouts.now c.args.leaf.now c.args.loc.now a.literal) c.args.arms.now c.loop-arm.arm-index c.arm-item.result
    c.loop-arm-test.true c.arm-item.is (c.in_ok-is_excluded.ensures.0 c.if-not-branch.false) c.loop-arm.invariant

pub returns : goal.returns
returns c = (
  resolves c.args.leaf.now c.args.loc.now c.resolve_loc.result c.resolve_loc.ensures c.if-is_none.ensures,
  all-excluded c.args.types.now c.args.layouts.now c.args.leaf.now c.args.loc.now c.args.arms.now
      (before-all (λ (a : FlatArm). Excludes c.args.types.now c.args.layouts.now c.args.leaf.now c.args.loc.now a.literal) c.args.arms.now c.loop-arm.arm-index c.loop-arm-test.false c.loop-arm.invariant),
)
