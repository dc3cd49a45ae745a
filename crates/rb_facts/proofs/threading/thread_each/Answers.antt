use Rattle.rb_decide.proofs.Moving.{take-next}
use Rattle.rb_facts.proofs.Threads.{thread_push}
use Rattle.rb_facts.proofs.threading.thread_each.Goals as goal

pub loop-edge-preserved : goal.loop-edge-preserved
loop-edge-preserved c =
    rw (c.in_ok-push.ensures.ok, take-next c.args.edges.now c.loop-edge.edge-index c.edge-item.result c.loop-edge-test.true c.edge-item.is)
    (thread_push c.args.agreed.now c.args.ty c.args.pats.now c.args.nodes.now _ c.loop-edge.more c.edge-item.result c.in_ok-thread_edge.field-0 c.loop-edge.invariant c.in_ok-thread_edge.ensures)
