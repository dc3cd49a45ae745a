use Rattle.std.proofs.Common.{◌≡◌, ◌++◌, drop}
use Rattle.std.specs.List.{flat_map}
use Rattle.rb_auto.specs.inner.Graphs.{named_types}
use Rattle.rb_auto.proofs.recursion.add_fields.Given as goal

abbrev pub invariant-loop-ty : goal.invariant-loop-ty
invariant-loop-ty l = l.row ++ flat_map named_types (drop l.ty-index l.fields) ≡ l.fn.row ++ flat_map named_types l.fields
