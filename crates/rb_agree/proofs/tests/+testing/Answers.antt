use Rattle.std.proofs.Common.{List, Option, sym, subst, ◌∙◌, ap}
use Rattle.rb_layout.specs.declared.layout.FlatTree as F
use Rattle.rb_layout.specs.declared.layout.FlatTree.{FlatTree}
use Rattle.rb_layout.specs.declared.layout.FlatArm.{FlatArm}
use Rattle.rb_layout.specs.Splits.{routes_of}
use Rattle.rb_agree.specs.declared.tests.Below.{Below}
use Rattle.rb_agree.specs.inner.Tests.{IsBelow, both, status_of}
use Rattle.rb_agree.proofs.Testing.{leaf-here, next-absent, next-passes, next-fails, all-done, split-fails, split-only, split-else, else-absent, else-passes, else-fails}
use Rattle.rb_agree.proofs.tests.+testing.Goals as goal
use Rattle.rb_agree.proofs.tests.+testing.Goals.{in-Absent, in-Passes}

pub returns-then-number-n : goal.returns-then-number-n
returns-then-number-n t c = leaf-here c.args.types.now c.args.layouts.now c.args.leaf.now c.args.n c.args.tree.now c.in-Leaf.number c.in-Leaf.is c.if-number-n.true

pub loop-arm-preserved : goal.loop-arm-preserved
loop-arm-preserved t c =
    elim c.match-branch-3.branch [
      | in-Absent w ↦ rw w.passes-is
          (next-absent c.args.types.now c.args.layouts.now c.args.leaf.now c.args.n c.in-Split.loc c.as_slice-arms.result.now c.loop-arm.arm-index c.arm-item.result c.loop-arm.passes
          c.in_ok-under-in-Split.under c.in_ok-behind_arm-in-Split.field-0 c.loop-arm-test.true c.arm-item.is c.in_ok-under-in-Split.ensures c.in_ok-behind_arm-in-Split.ensures w.in-Absent.is c.loop-arm.invariant)
      | in-Passes w ↦ rw w.passes-is
          (next-passes c.args.types.now c.args.layouts.now c.args.leaf.now c.args.n c.in-Split.loc c.as_slice-arms.result.now c.loop-arm.arm-index c.arm-item.result c.loop-arm.passes
          c.in_ok-under-in-Split.under c.in_ok-behind_arm-in-Split.field-0 c.loop-arm-test.true c.arm-item.is c.in_ok-under-in-Split.ensures c.in_ok-behind_arm-in-Split.ensures w.in-Passes.is c.loop-arm.invariant)
    ]

pub returns-in-Fails : goal.returns-in-Fails
returns-in-Fails t c =
    split-fails c.args.types.now c.args.layouts.now c.args.leaf.now c.args.n c.args.tree.now c.in-Split.loc c.as_slice-arms.result.now c.in-Split.other
    (c.in-Split.is ∙ ap (λ (xs : List FlatArm). F.Split c.in-Split.loc xs c.in-Split.other) (sym c.as_slice-arms.ensures)) c.in-Fails.why
    (next-fails c.args.types.now c.args.layouts.now c.args.leaf.now c.args.n c.in-Split.loc c.as_slice-arms.result.now c.loop-arm.arm-index c.arm-item.result c.loop-arm.passes
    c.in_ok-under-in-Split.under c.in_ok-behind_arm-in-Split.field-0 c.loop-arm-test.true c.arm-item.is c.in_ok-under-in-Split.ensures c.in_ok-behind_arm-in-Split.ensures c.in-Fails.why c.in-Fails.is c.loop-arm.invariant)

pub returns-in-None : goal.returns-in-None
returns-in-None t c =
    subst (λ (b : Below). IsBelow c.args.types.now c.args.layouts.now c.args.leaf.now c.args.n (routes_of c.args.tree.now) b) (sym c.status_of.ensures)
    (split-only c.args.types.now c.args.layouts.now c.args.leaf.now c.args.n c.args.tree.now c.in-Split.loc c.as_slice-arms.result.now c.loop-arm.passes
    (c.in-Split.is ∙ ap (λ (xs : List FlatArm). F.Split c.in-Split.loc xs c.in-Split.other) (sym c.as_slice-arms.ensures)
    ∙ ap (λ (o : Option FlatTree). F.Split c.in-Split.loc c.as_slice-arms.result.now o) c.in-None.is)
    (all-done c.args.types.now c.args.layouts.now c.args.leaf.now c.args.n c.in-Split.loc c.as_slice-arms.result.now c.loop-arm.arm-index c.loop-arm.passes c.loop-arm-test.false c.loop-arm.invariant))

pub returns-in-Absent-2 : goal.returns-in-Absent-2
returns-in-Absent-2 t c =
    subst (λ (b : Below). IsBelow c.args.types.now c.args.layouts.now c.args.leaf.now c.args.n (routes_of c.args.tree.now) b) (sym c.status_of-in-Absent-2.ensures)
    (else-absent c.args.types.now c.args.layouts.now c.args.leaf.now c.args.n c.loop-arm.passes (routes_of c.args.tree.now)
    (subst (λ (b : Below). IsBelow c.args.types.now c.args.layouts.now c.args.leaf.now c.args.n (routes_of c.args.tree.now) (both (status_of c.loop-arm.passes) b)) c.in-Absent-2.is
    (split-else c.args.types.now c.args.layouts.now c.args.leaf.now c.args.n c.args.tree.now c.in-Split.loc c.as_slice-arms.result.now c.in-Some.tree c.loop-arm.passes
    c.in_ok-under-in-Some.under c.in_ok-behind_else-in-Some.field-0
    (c.in-Split.is ∙ ap (λ (xs : List FlatArm). F.Split c.in-Split.loc xs c.in-Split.other) (sym c.as_slice-arms.ensures)
    ∙ ap (λ (o : Option FlatTree). F.Split c.in-Split.loc c.as_slice-arms.result.now o) c.in-Some.is)
    (all-done c.args.types.now c.args.layouts.now c.args.leaf.now c.args.n c.in-Split.loc c.as_slice-arms.result.now c.loop-arm.arm-index c.loop-arm.passes c.loop-arm-test.false c.loop-arm.invariant)
    (subst (λ (x : FlatTree). IsBelow c.args.types.now c.args.layouts.now c.args.leaf.now c.args.n (routes_of x) c.in_ok-under-in-Some.under) c.get.ensures c.in_ok-under-in-Some.ensures)
    c.in_ok-behind_else-in-Some.ensures)))

pub returns-in-Passes-2 : goal.returns-in-Passes-2
returns-in-Passes-2 t c =
    else-passes c.args.types.now c.args.layouts.now c.args.leaf.now c.args.n c.loop-arm.passes (routes_of c.args.tree.now)
    (subst (λ (b : Below). IsBelow c.args.types.now c.args.layouts.now c.args.leaf.now c.args.n (routes_of c.args.tree.now) (both (status_of c.loop-arm.passes) b)) c.in-Passes-2.is
    (split-else c.args.types.now c.args.layouts.now c.args.leaf.now c.args.n c.args.tree.now c.in-Split.loc c.as_slice-arms.result.now c.in-Some.tree c.loop-arm.passes
    c.in_ok-under-in-Some.under c.in_ok-behind_else-in-Some.field-0
    (c.in-Split.is ∙ ap (λ (xs : List FlatArm). F.Split c.in-Split.loc xs c.in-Split.other) (sym c.as_slice-arms.ensures)
    ∙ ap (λ (o : Option FlatTree). F.Split c.in-Split.loc c.as_slice-arms.result.now o) c.in-Some.is)
    (all-done c.args.types.now c.args.layouts.now c.args.leaf.now c.args.n c.in-Split.loc c.as_slice-arms.result.now c.loop-arm.arm-index c.loop-arm.passes c.loop-arm-test.false c.loop-arm.invariant)
    (subst (λ (x : FlatTree). IsBelow c.args.types.now c.args.layouts.now c.args.leaf.now c.args.n (routes_of x) c.in_ok-under-in-Some.under) c.get.ensures c.in_ok-under-in-Some.ensures)
    c.in_ok-behind_else-in-Some.ensures))

pub returns-in-Fails-2 : goal.returns-in-Fails-2
returns-in-Fails-2 t c =
    else-fails c.args.types.now c.args.layouts.now c.args.leaf.now c.args.n c.loop-arm.passes (routes_of c.args.tree.now) c.in-Fails-2.why
    (subst (λ (b : Below). IsBelow c.args.types.now c.args.layouts.now c.args.leaf.now c.args.n (routes_of c.args.tree.now) (both (status_of c.loop-arm.passes) b)) c.in-Fails-2.is
    (split-else c.args.types.now c.args.layouts.now c.args.leaf.now c.args.n c.args.tree.now c.in-Split.loc c.as_slice-arms.result.now c.in-Some.tree c.loop-arm.passes
    c.in_ok-under-in-Some.under c.in_ok-behind_else-in-Some.field-0
    (c.in-Split.is ∙ ap (λ (xs : List FlatArm). F.Split c.in-Split.loc xs c.in-Split.other) (sym c.as_slice-arms.ensures)
    ∙ ap (λ (o : Option FlatTree). F.Split c.in-Split.loc c.as_slice-arms.result.now o) c.in-Some.is)
    (all-done c.args.types.now c.args.layouts.now c.args.leaf.now c.args.n c.in-Split.loc c.as_slice-arms.result.now c.loop-arm.arm-index c.loop-arm.passes c.loop-arm-test.false c.loop-arm.invariant)
    (subst (λ (x : FlatTree). IsBelow c.args.types.now c.args.layouts.now c.args.leaf.now c.args.n (routes_of x) c.in_ok-under-in-Some.under) c.get.ensures c.in_ok-under-in-Some.ensures)
    c.in_ok-behind_else-in-Some.ensures))
