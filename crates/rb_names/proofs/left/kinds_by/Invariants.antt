use Rattle.std.proofs.Common.{◌≡◌, ◌++◌, drop, map}
use Rattle.rb_names.specs.Definitions.{type_names}
use Rattle.rb_names.specs.Tables.{meaning}
use Rattle.rb_names.proofs.left.kinds_by.Given as goal

abbrev pub invariant-loop-item : goal.invariant-loop-item
invariant-loop-item l = l.kinds ++ map (meaning l.left) (type_names (drop l.item-index l.items)) ≡ map (meaning l.left) (type_names l.items)
