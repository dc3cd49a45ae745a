use Rattle.std.proofs.Common.{suc, ◌≡◌, ◌-◌, length, ap, ◌∙◌, arith}
use Rattle.rb_coding.proofs.WaitLemmas.{wait_start, wait_turn, wait_in}
use Rattle.rb_coding.proofs.posts.types_of.Goals as goal

pub loop-node-init : goal.loop-node-init
loop-node-init c =
    let n = c.len-node.ensures ∙ ap length c.as_nodes-nodes.ensures in
    rw (c.in_ok-push.ensures.items, c.new-waiting.ensures.items)
    (wait_start c.args.types.now c.args.value.now c.args.ty c.requires c.len-node.result c.in_ok-tys.tys.items n (let l = c.in_ok-tys.ensures.len in let k = c.in_ok-tys.tys.ok.0 in omega (arith, l, k, c.len.ensures, c.len-node.ensures)))

pub layer-requires : goal.layer-requires
layer-requires c =
    let in_nodes = wait_in c.args.types.now c.args.value.now c.args.ty c.requires c.loop-node.node c.loop-node.waiting.items c.loop-node.tys.items c.loop-node.invariant in
    let l = ap length c.as_nodes-nodes.ensures in
    omega (arith, in_nodes, l, c.loop-node-test.true)

pub loop-node-preserved : goal.loop-node-preserved
loop-node-preserved c =
    let n : suc (c.loop-node.node - 1) ≡ c.loop-node.node = omega (arith, c.loop-node-test.true) in
    rw c.in_ok-push_fields-in-Some.ensures
    (wait_turn c.args.types.now c.args.value.now c.args.ty c.requires c.loop-node.node (c.loop-node.node - 1) c.loop-node.waiting.items c.pop.new.self.items c.loop-node.tys.items c.in-Some.ty c.loop-node.invariant n c.in-Some.ensures.items
    c.layer.result (rw c.as_nodes-nodes.ensures at c.layer.ensures))
