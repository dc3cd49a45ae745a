use Rattle.rb_match.proofs.Nodes.{graph_holes, graph_ways, graph_takes}
use Rattle.rb_match.proofs.engine.emit_graph.Goals as goal

pub returns-clause-holes : goal.returns-clause-holes
returns-clause-holes c =
    graph_holes c.args.graph.now.nodes.now _ c.in_ok-edges.edges c.in_ok-holes.holes (rw c.as_slice.ensures at c.in_ok-holes.ensures) c.args.body.now c.emit_nodes.new.body c.in_ok-edges.ensures.stands

pub returns-clause-ways : goal.returns-clause-ways
returns-clause-ways c =
    graph_ways c.args.graph.now.nodes.now _ c.in_ok-edges.edges c.in_ok-holes.holes (rw c.as_slice.ensures at c.in_ok-holes.ensures) c.args.body.now c.emit_nodes.new.body c.in_ok-edges.ensures.stands

pub returns-clause-takes : goal.returns-clause-takes
returns-clause-takes c =
    graph_takes c.args.graph.now.nodes.now _ c.in_ok-edges.edges c.in_ok-holes.holes (rw c.as_slice.ensures at c.in_ok-holes.ensures) c.args.agreed.now c.args.graph.now.ty c.args.subject.now.words.now c.args.graph.now.pats.now c.args.subject.now.spots.now c.args.root c.args.body.now c.emit_nodes.new.body
    c.in_ok-edges.ensures.flows

pub returns-clause-grows : goal.returns-clause-grows
returns-clause-grows c = c.in_ok-edges.ensures.stands.grows
