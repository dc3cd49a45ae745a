use Rattle.std.proofs.Common.{◌≡◌, ◌++◌, drop}
use Rattle.std.specs.List.{flat_map}
use Rattle.rb_agree.specs.inner.Rows.{leaf_types}
use Rattle.rb_agree.proofs.graphs.flat_row.Given as goal

abbrev pub invariant-loop-leaf : goal.invariant-loop-leaf
invariant-loop-leaf l = l.row ++ flat_map leaf_types (drop l.leaf-index l.leaves) ≡ flat_map leaf_types l.leaves
