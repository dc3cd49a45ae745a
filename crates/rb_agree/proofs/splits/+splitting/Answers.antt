use Rattle.std.proofs.Common.{Some, None, Option, subst, ◌∙◌, ap}
use Rattle.std.specs.Prelude.{is_some}
use Rattle.std.proofs.lemmas.Result.{IfOk-weaker}
use Rattle.rb_layout.specs.declared.evidence.Why.{Why}
use Rattle.rb_layout.specs.declared.layout.FlatTree as F
use Rattle.rb_layout.specs.declared.layout.FlatTree.{FlatTree}
use Rattle.rb_layout.specs.Splits.{splits_of}
use Rattle.rb_layout.specs.A8.{SplitsWell}
use Rattle.rb_agree.specs.inner.Lists.{FindsIn}
use Rattle.rb_agree.specs.inner.Splits.{FailsSplit}
use Rattle.rb_agree.proofs.Splitting.{Finds, arm-found, arm-passed, arms-end, split-found, arms-found, other-found}
use Rattle.rb_agree.proofs.splits.+splitting.Goals as goal

pub arms_fault-returns-in-Some : goal.arms_fault-returns-in-Some
arms_fault-returns-in-Some t c =
    arm-found c.args.arms.now c.loop-arm.arm-index c.arm-item.result c.in_ok-why.field-0 c.in-Some.why c.loop-arm-test.true c.arm-item.is c.in_ok-why.ensures c.in-Some.is c.loop-arm.invariant

pub arms_fault-loop-arm-preserved : goal.arms_fault-loop-arm-preserved
arms_fault-loop-arm-preserved t c =
    arm-passed c.args.arms.now c.loop-arm.arm-index c.arm-item.result c.in_ok-why.field-0 c.loop-arm-test.true c.arm-item.is c.in_ok-why.ensures c.in_default.is c.loop-arm.invariant

pub arms_fault-returns : goal.arms_fault-returns
arms_fault-returns t c = arms-end c.args.arms.now c.loop-arm.arm-index c.loop-arm-test.false c.loop-arm.invariant

pub tree_fault-returns-in-Some : goal.tree_fault-returns-in-Some
tree_fault-returns-in-Some t c =
    split-found c.args.tree.now c.in-Split.loc c.in-Split.arms c.in-Split.other c.in-Split.is c.as_slice.result.now c.is_some.result c.in_ok-why-in-Split.field-0 c.in-Some.why
    c.as_slice.ensures c.is_some.ensures c.in-Some.is c.in_ok-why-in-Split.ensures

pub tree_fault-returns-in-Some-2 : goal.tree_fault-returns-in-Some-2
tree_fault-returns-in-Some-2 t c =
    arms-found c.args.tree.now c.in-Split.loc c.in-Split.arms c.in-Split.other c.in-Split.is c.as_slice.result.now c.as_slice-in-Split.result.now c.is_some.result
    c.in_ok-why-in-Split.field-0 c.in_ok-why-in-Split-2.field-0 c.in-Some-2.why
    c.as_slice.ensures c.is_some.ensures c.in_default.is c.in_ok-why-in-Split.ensures c.as_slice-in-Split.ensures c.in-Some-2.is c.in_ok-why-in-Split-2.ensures

pub tree_fault-returns-in-None : goal.tree_fault-returns-in-None
tree_fault-returns-in-None t c =
    other-found c.args.tree.now c.in-Split.loc c.in-Split.arms None (c.in-Split.is ∙ ap (λ (o : Option FlatTree). F.Split c.in-Split.loc c.in-Split.arms o) c.in-None.is)
    c.as_slice.result.now c.as_slice-in-Split.result.now c.is_some.result c.in_ok-why-in-Split.field-0 c.in_ok-why-in-Split-2.field-0 None
    c.as_slice.ensures (c.is_some.ensures ∙ ap (λ (o : Option FlatTree). is_some o) c.in-None.is) c.in_default.is c.in_ok-why-in-Split.ensures
    c.as_slice-in-Split.ensures c.in_default-2.is c.in_ok-why-in-Split-2.ensures (λ k x e. absurd cc)

pub tree_fault-returns-in-Some-other : goal.tree_fault-returns-in-Some-other
tree_fault-returns-in-Some-other t c =
    IfOk-weaker c.tree_fault.result (FindsIn SplitsWell FailsSplit (splits_of c.get.result.now)) (FindsIn SplitsWell FailsSplit (splits_of c.args.tree.now))
    (λ (x : Option Why) rest.
    other-found c.args.tree.now c.in-Split.loc c.in-Split.arms (Some c.in-Some-other.tree) (c.in-Split.is ∙ ap (λ (o : Option FlatTree). F.Split c.in-Split.loc c.in-Split.arms o) c.in-Some-other.is)
    c.as_slice.result.now c.as_slice-in-Split.result.now c.is_some.result c.in_ok-why-in-Split.field-0 c.in_ok-why-in-Split-2.field-0 x
    c.as_slice.ensures (c.is_some.ensures ∙ ap (λ (o : Option FlatTree). is_some o) c.in-Some-other.is) c.in_default.is c.in_ok-why-in-Split.ensures
    c.as_slice-in-Split.ensures c.in_default-2.is c.in_ok-why-in-Split-2.ensures (subst (λ (y : FlatTree). Finds (splits_of y) x) c.get.ensures rest)) c.tree_fault.ensures
