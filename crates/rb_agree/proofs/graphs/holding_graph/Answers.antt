use Rattle.std.proofs.Common.{map}
use Rattle.rb_agree.specs.inner.Rows.{held_row}
use Rattle.rb_agree.proofs.Relating.{is-held-graph, mapped-end}
use Rattle.rb_agree.proofs.graphs.holding_graph.Goals as goal

pub returns : goal.returns
returns c =
    is-held-graph c.args.types.now c.args.layouts.now c.loop-layout.graph
    (mapped-end (held_row c.args.types.now) c.args.layouts.now c.loop-layout.layout-index c.loop-layout.graph (map (held_row c.args.types.now) c.args.layouts.now) c.loop-layout-test.false c.loop-layout.invariant)
