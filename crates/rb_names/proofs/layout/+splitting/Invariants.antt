use Rattle.std.proofs.Common.{◌≡◌, map, drop}
use Rattle.rb_names.specs.Numbering.{all_of}
use Rattle.rb_names.specs.inner.Parts.{numbered_arm}
use Rattle.rb_names.specs.inner.Joining.{parts_before}
use Rattle.rb_names.proofs.layout.+splitting.Given as goal

abbrev pub invariant-number_arms-loop-tree : goal.invariant-number_arms-loop-tree
invariant-number_arms-loop-tree l = parts_before l.arms (all_of (map (numbered_arm l.tables) (drop l.tree-index l.trees))) ≡ all_of (map (numbered_arm l.tables) l.trees)
