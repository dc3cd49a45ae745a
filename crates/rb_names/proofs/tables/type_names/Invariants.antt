use Rattle.std.proofs.Common.{◌≡◌, ◌||◌, drop, is_some}
use Rattle.std.specs.List.{list_any}
use Rattle.std.specs.Str.{bytes_eq}
use Rattle.rb_names.specs.Tables.{Name, meaning}
use Rattle.rb_names.specs.Definitions.{type_names}
use Rattle.rb_names.proofs.tables.type_names.Given as goal

abbrev pub invariant-loop-item : goal.invariant-loop-item
invariant-loop-item l = (name : Name)
    → (is_some (meaning l.types name) || list_any (bytes_eq name) (type_names (drop l.item-index l.items))) ≡ list_any (bytes_eq name) (type_names l.items)
