use Rattle.std.proofs.Common.{◌≡◌, ◌++◌, drop, map}
use Rattle.rb_auto.specs.inner.Graphs.{field_types}
use Rattle.rb_auto.proofs.recursion.field_graph.Given as goal

abbrev pub invariant-loop-data : goal.invariant-loop-data
invariant-loop-data l = l.graph ++ map field_types (drop l.data-index l.types) ≡ map field_types l.types
