use Rattle.std.proofs.Common.{◌≡◌, ◌++◌, map, drop}
use Rattle.rb_agree.specs.inner.Rows.{held_row}
use Rattle.rb_agree.proofs.graphs.holding_graph.Given as goal

abbrev pub invariant-loop-layout : goal.invariant-loop-layout
invariant-loop-layout l = l.graph ++ map (held_row l.types) (drop l.layout-index l.layouts) ≡ map (held_row l.types) l.layouts
