use Rattle.std.proofs.Common.{◌≡◌, ◌++◌, drop}
use Rattle.rb_match.specs.inner.Opening.{shared_edges}
use Rattle.rb_match.proofs.deep.edges_onward.Given as goal

abbrev pub invariant-loop-hole : goal.invariant-loop-hole
invariant-loop-hole l = l.edges ++ shared_edges l.nodes l.count l.known (drop l.hole-index l.holes) ≡ shared_edges l.nodes l.count l.known l.holes
