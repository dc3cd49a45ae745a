use Rattle.std.proofs.Common.{◌≡◌, ◌<◌, ℕ, List, Some, subst, arith}
use Rattle.std.specs.Prelude.{slice_get}
use Rattle.rb_layout.specs.declared.layout.Leaf.{Leaf}
use Rattle.rb_layout.specs.A5.{HaveCommon}
use Rattle.rb_agree.proofs.Covering.{common-at, apart-more, all-apart}
use Rattle.rb_agree.proofs.values.apart_fault.Goals as goal

pub returns-then-branch : goal.returns-then-branch
returns-then-branch c =
    subst (λ (ls : List Leaf). (c.args.n < c.in_ok-number_of.field-0) × (x : Leaf) × (slice_get ls c.in_ok-number_of.field-0 ≡ Some x) × HaveCommon c.args.types.now c.args.ty c.args.leaf.now.prov x.prov)
    c.as_slice-leaves.ensures
    (common-at c.args.types.now c.args.ty c.args.n c.args.leaf.now c.as_slice-leaves.result.now c.loop-m.m c.in_ok-number_of.field-0 c.index-leaves-m.result c.in_ok-have_common.field-0
    (omega arith) c.loop-m-test.true c.index-leaves-m.is c.in_ok-have_common.ensures c.if-branch.true c.in_ok-number_of.ensures)

pub loop-m-preserved : goal.loop-m-preserved
loop-m-preserved c =
    apart-more c.args.types.now c.args.ty c.args.n c.args.leaf.now c.as_slice-leaves.result.now c.loop-m.m c.index-leaves-m.result c.in_ok-have_common.field-0
    c.loop-m-test.true c.index-leaves-m.is c.in_ok-have_common.ensures c.if-branch.false c.loop-m.invariant

pub returns : goal.returns
returns c =
    subst (λ (ls : List Leaf). (m : ℕ) (later : Leaf) → c.args.n < m → slice_get ls m ≡ Some later → HaveCommon c.args.types.now c.args.ty c.args.leaf.now.prov later.prov → ⊥)
    c.as_slice-leaves.ensures
    (λ m later less at. all-apart c.args.types.now c.args.ty c.args.n c.args.leaf.now c.as_slice-leaves.result.now c.loop-m.m m later c.loop-m-test.false c.loop-m.invariant less at)
