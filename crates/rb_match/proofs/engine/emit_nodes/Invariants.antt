use Rattle.rb_match.specs.inner.Flowing.{RootStands}
use Rattle.rb_match.proofs.engine.emit_nodes.Given as goal

abbrev pub invariant-loop-i : goal.invariant-loop-i
invariant-loop-i l = RootStands l.agreed l.graph.ty l.subject.words.now l.graph.pats.now l.subject.spots.now l.graph.nodes.now l.root l.fn.body l.body l.edges
