use Rattle.std.proofs.Common.{◌≡◌, drop}
use Rattle.rb_layout.specs.Positions.{leaf_from}
use Rattle.rb_values.specs.Nodes.{at}
use Rattle.rb_coding.proofs.leaf.leaf_among.Given as goal

abbrev pub invariant-loop-leaf : goal.invariant-loop-leaf
invariant-loop-leaf l = leaf_from l.leaves (at l.nodes l.node) 0 ≡ leaf_from (drop l.leaf-index l.leaves) (at l.nodes l.node) l.leaf-index
