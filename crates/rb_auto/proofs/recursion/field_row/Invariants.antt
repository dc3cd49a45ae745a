use Rattle.std.proofs.Common.{◌≡◌, ◌++◌, drop}
use Rattle.std.specs.List.{flat_map}
use Rattle.rb_auto.specs.inner.Graphs.{con_types}
use Rattle.rb_auto.proofs.recursion.field_row.Given as goal

abbrev pub invariant-loop-con : goal.invariant-loop-con
invariant-loop-con l = l.row ++ flat_map con_types (drop l.con-index l.cons) ≡ flat_map con_types l.cons
