use Rattle.std.proofs.Common.{◌≡◌, ◌++◌, map, drop}
use Rattle.rb_agree.specs.inner.Rows.{flat_row}
use Rattle.rb_agree.proofs.graphs.flattening_graph.Given as goal

abbrev pub invariant-loop-layout : goal.invariant-loop-layout
invariant-loop-layout l = l.graph ++ map flat_row (drop l.layout-index l.layouts) ≡ map flat_row l.layouts
