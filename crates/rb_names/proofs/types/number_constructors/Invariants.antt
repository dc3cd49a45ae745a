use Rattle.std.proofs.Common.{◌≡◌, map, drop}
use Rattle.rb_names.specs.Numbering.{all_of, numbered_constructor}
use Rattle.rb_names.specs.inner.Joining.{parts_before}
use Rattle.rb_names.proofs.types.number_constructors.Given as goal

abbrev pub invariant-loop-tree : goal.invariant-loop-tree
invariant-loop-tree l =
    parts_before l.cons (all_of (map (numbered_constructor l.tables) (drop l.tree-index l.trees))) ≡ all_of (map (numbered_constructor l.tables) l.trees)
