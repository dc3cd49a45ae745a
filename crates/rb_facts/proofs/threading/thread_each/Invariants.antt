use Rattle.std.proofs.Common.{take}
use Rattle.rb_facts.specs.Threading.{AreThreaded}
use Rattle.rb_facts.proofs.threading.thread_each.Given as goal

abbrev pub invariant-loop-edge : goal.invariant-loop-edge
invariant-loop-edge l = AreThreaded l.agreed l.ty l.pats l.nodes (take l.edge-index l.edges) l.more
