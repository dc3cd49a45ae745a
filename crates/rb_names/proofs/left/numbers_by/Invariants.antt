use Rattle.std.proofs.Common.{◌≡◌, ◌++◌, drop}
use Rattle.rb_names.specs.Completing.{left_in, type_numbers}
use Rattle.rb_names.proofs.left.numbers_by.Given as goal

abbrev pub invariant-loop-item : goal.invariant-loop-item
invariant-loop-item l = l.numbers ++ type_numbers l.types (left_in (drop l.item-index l.items)) ≡ type_numbers l.types (left_in l.items)
