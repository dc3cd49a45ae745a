use Rattle.std.proofs.Common.{◌≡◌, ◌++◌, drop}
use Rattle.rb_match.specs.inner.Asking.{leaf_edges_of}
use Rattle.rb_match.proofs.asking.edges_of_leaves.Given as goal

abbrev pub invariant-loop-hole : goal.invariant-loop-hole
invariant-loop-hole l =
    l.edges ++ leaf_edges_of l.agreed l.nodes l.ty l.test.position l.test.known.now l.test.arms.now l.test.other (drop l.hole-index l.holes) ≡ leaf_edges_of l.agreed l.nodes l.ty l.test.position l.test.known.now l.test.arms.now l.test.other l.holes
