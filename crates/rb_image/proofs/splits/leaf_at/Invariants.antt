use Rattle.std.proofs.Common.{◌≡◌, length}
use Rattle.rb_layout.specs.Splits.{splits_of}
use Rattle.rb_image.specs.Splits.{leaf_at as the_leaf}
use Rattle.rb_image.proofs.splits.leaf_at.Given as goal

abbrev pub invariant-loop-tree : goal.invariant-loop-tree
invariant-loop-tree l = the_leaf l.fn.tree l.memory l.words ≡ the_leaf l.tree l.memory l.words

abbrev pub decreases-loop-tree : goal.decreases-loop-tree
decreases-loop-tree l = length (splits_of l.tree)
