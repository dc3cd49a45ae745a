use Rattle.std.proofs.Common.{◌≡◌, drop}
use Rattle.rb_names.specs.inner.Joining.{behind_items}
use Rattle.rb_names.specs.Programs.{numbered_items}
use Rattle.rb_names.proofs.items.number_items.Given as goal

abbrev pub invariant-loop-tree : goal.invariant-loop-tree
invariant-loop-tree l = behind_items l.items (numbered_items l.tables (drop l.tree-index l.trees)) ≡ numbered_items l.tables l.trees
