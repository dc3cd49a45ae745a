use Rattle.std.proofs.Common.{ℕ, length}
use Rattle.rb_layout.specs.Splits.{splits_of}
use Rattle.rb_coding.specs.inner.Leading.{RouteLeads}
use Rattle.rb_coding.proofs.splits.leaf_number.Given as goal

abbrev pub invariant-loop-tree : goal.invariant-loop-tree
invariant-loop-tree g l = (leaf : ℕ) → RouteLeads l.words (g.M.ByteMemory.memory l.memory) l.fn.tree leaf → RouteLeads l.words (g.M.ByteMemory.memory l.memory) l.tree leaf

abbrev pub decreases-loop-tree : goal.decreases-loop-tree
decreases-loop-tree g l = length (splits_of l.tree)
