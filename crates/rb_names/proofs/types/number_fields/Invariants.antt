use Rattle.std.proofs.Common.{◌≡◌, map, drop}
use Rattle.rb_names.specs.Numbering.{all_of, numbered_type}
use Rattle.rb_names.specs.inner.Joining.{parts_before}
use Rattle.rb_names.proofs.types.number_fields.Given as goal

abbrev pub invariant-loop-tree : goal.invariant-loop-tree
invariant-loop-tree l = parts_before l.fields (all_of (map (numbered_type l.tables) (drop l.tree-index l.trees))) ≡ all_of (map (numbered_type l.tables) l.trees)
