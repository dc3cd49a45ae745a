-- What is left of an arm of a split where the leaves below it form groups: a split tests the bits at a location of a
-- value's words, and an arm leads to the tree below it where they are its literal. Groups are given leaf by leaf, none
-- for a leaf that can't be here.
use Rattle.std.specs.Prelude.{ℕ, List, Option}
use Rattle.rb_layout.specs.declared.layout.FlatTree.{FlatTree}
use Rattle.rb_layout.specs.declared.layout.FlatTree.TheFolds.{fold-FlatArm}
use Rattle.rb_layout.specs.declared.layout.FlatArm.{FlatArm}
use Rattle.rb_layout.specs.Splits.{Under}
use Rattle.rb_fetch.specs.Pruning.{prune_arm, prune_step}

-- the literal of an arm, with the tree that is left of the one below it: that which leads to the group of a leaf where
-- the one below the arm leads to the leaf; none where no leaf below the arm has a group
abbrev pub pruned_under : List (Option ℕ) → FlatArm → Under (Option FlatTree)
pruned_under groups = fold-FlatArm (Option FlatTree) (Under (Option FlatTree)) (prune_step groups) prune_arm
