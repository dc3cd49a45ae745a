use Rattle.std.proofs.Common.{drop}
use Rattle.rb_facts.specs.inner.Threading.{Ascend}
use Rattle.rb_facts.proofs.threading.ascend.Given as goal

abbrev pub invariant-loop-edge : goal.invariant-loop-edge
invariant-loop-edge l = Ascend l.from (drop l.edge-index l.edges) → Ascend 0 l.edges
