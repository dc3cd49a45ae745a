use Rattle.std.proofs.Common.{◌∙◌, length, ap, arith}
use Rattle.rb_core.specs.Values.{node_count}
use Rattle.std.proofs.Common.{map}
use Rattle.rb_values.specs.Nodes.{posts}
use Rattle.rb_coding.proofs.WaitLemmas.{start_le, sizes_more, take_end}
use Rattle.rb_coding.proofs.posts.sizes_of.Goals as goal

pub overflow_sub-node : goal.overflow_sub-node
overflow_sub-node c = let le = start_le c.as_slice.result.now c.loop-node.node c.arity.result in omega (arith, le, c.start_of-start.ensures)

pub loop-node-preserved : goal.loop-node-preserved
loop-node-preserved c = λ types ty typed.
    (let lt = c.loop-node-test.true in
    let more = sizes_more types c.args.value.now ty typed c.loop-node.sizes c.loop-node.node (c.loop-node.invariant types ty typed) (rw (c.len-node-end.ensures, c.as_nodes-nodes.ensures) at lt) c.arity.result (rw c.as_nodes-nodes.ensures at c.arity.ensures) in
    rw (c.in_ok-push.ensures.ok, c.start_of-start.ensures, c.as_slice.ensures) more)

pub returns : goal.returns
returns c = λ types ty typed.
    c.loop-node.invariant types ty typed
    ∙ ap (map node_count) (take_end (posts c.args.value.now) c.loop-node.node (let l = ap length c.as_nodes-nodes.ensures in omega (arith, c.loop-node-test.false, c.len-node-end.ensures, l)))
