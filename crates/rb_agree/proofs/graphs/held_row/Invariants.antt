use Rattle.std.proofs.Common.{◌≡◌, ◌++◌, drop}
use Rattle.std.specs.List.{flat_map}
use Rattle.rb_agree.specs.inner.Rows.{leaf_holds}
use Rattle.rb_agree.proofs.graphs.held_row.Given as goal

abbrev pub invariant-loop-leaf : goal.invariant-loop-leaf
invariant-loop-leaf l = l.row ++ flat_map (leaf_holds l.types) (drop l.leaf-index l.leaves) ≡ flat_map (leaf_holds l.types) l.leaves
