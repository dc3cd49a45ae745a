use Rattle.std.proofs.Common.{◌≡◌, ◌+◌, ◌≤◌, length, map}
use Rattle.rb_layout.specs.Splits.{splits_of}
use Rattle.rb_image.specs.Sites.{kept_of}
use Rattle.rb_image.specs.Spans.{tree_span}
use Rattle.rb_image.specs.Splits.{leaf_at}
use Rattle.rb_image.proofs.leaf.read_leaf.Given as goal

abbrev pub invariant-loop-tree : goal.invariant-loop-tree
invariant-loop-tree g l = record {
  leaf : leaf_at l.fn.tree l.image.blocks (map (kept_of l.image) l.sites) ≡ leaf_at l.tree l.image.blocks (map (kept_of l.image) l.sites);
  least : l.fn.steps.taken ≤ l.steps.taken;
  most : l.steps.taken + tree_span l.tree ≤ l.fn.steps.taken + tree_span l.fn.tree;
}

abbrev pub decreases-loop-tree : goal.decreases-loop-tree
decreases-loop-tree g l = length (splits_of l.tree)
