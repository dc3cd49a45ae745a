use Rattle.rb_facts.proofs.Following.{common-next}
use Rattle.rb_facts.proofs.knowledge.node_known.Goals as goal

pub loop-edge-preserved : goal.loop-edge-preserved
loop-edge-preserved c =
    common-next c.args.edges.now c.loop-edge.edge-index c.edge-item.result c.args.node c.loop-edge.found c.in_ok-found.found c.loop-edge-test.true c.edge-item.is c.loop-edge.invariant c.in_ok-found.ensures
