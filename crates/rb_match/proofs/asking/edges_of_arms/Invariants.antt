use Rattle.std.proofs.Common.{◌≡◌, ◌++◌, drop}
use Rattle.rb_match.specs.inner.Asking.{arm_edges}
use Rattle.rb_match.proofs.asking.edges_of_arms.Given as goal

abbrev pub invariant-loop-k : goal.invariant-loop-k
invariant-loop-k l = l.edges ++ arm_edges l.nodes l.pc l.known (drop l.k l.arms) l.k ≡ arm_edges l.nodes l.pc l.known l.arms 0
