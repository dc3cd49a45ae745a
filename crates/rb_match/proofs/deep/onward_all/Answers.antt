use Rattle.std.proofs.Common.{arith, ◌≡◌, subst}
use Rattle.rb_fetch.specs.Finding.{leaf_count}
use Rattle.rb_match.specs.inner.Asking.{AreGroups}
use Rattle.rb_match.specs.inner.Opening.{LeadsLeaf}
use Rattle.rb_match.proofs.Groups.{no_groups, one_group_more}
use Rattle.rb_match.proofs.deep.onward_all.Goals as goal

pub loop-leaf-init : goal.loop-leaf-init
loop-leaf-init c = rw c.new-all.ensures (no_groups (LeadsLeaf c.args.agreed.now c.args.graph.now c.args.ty c.args.test.now.known.now c.args.test.now.position c.args.test.now.arms.now c.args.test.now.other))

pub loop-leaf-preserved : goal.loop-leaf-preserved
loop-leaf-preserved c =
    rw c.in_ok-push.ensures.ok (one_group_more (LeadsLeaf c.args.agreed.now c.args.graph.now c.args.ty c.args.test.now.known.now c.args.test.now.position c.args.test.now.arms.now c.args.test.now.other) c.loop-leaf.leaf c.loop-leaf.all _ c.loop-leaf.invariant c.in_ok-onward_of.ensures)

pub returns : goal.returns
returns c =
    let end : c.loop-leaf.leaf ≡ leaf_count c.args.agreed.now c.args.ty = omega (arith, c.loop-leaf-test.false, c.loop-leaf.auto.leaf-end, c.count_leaves-leaf-end.ensures) in
    subst (λ n. AreGroups (LeadsLeaf c.args.agreed.now c.args.graph.now c.args.ty c.args.test.now.known.now c.args.test.now.position c.args.test.now.arms.now c.args.test.now.other) n c.loop-leaf.all) end c.loop-leaf.invariant
