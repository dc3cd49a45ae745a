use Rattle.std.proofs.Common.{take}
use Rattle.rb_facts.specs.Knowing.{IsCommonKnowledge}
use Rattle.rb_facts.proofs.knowledge.node_known.Given as goal

abbrev pub invariant-loop-edge : goal.invariant-loop-edge
invariant-loop-edge l = IsCommonKnowledge (take l.edge-index l.edges) l.node l.found
