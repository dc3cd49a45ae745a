use Rattle.std.proofs.Common.{map}
use Rattle.rb_agree.specs.inner.Rows.{flat_row}
use Rattle.rb_agree.proofs.Relating.{is-flat-graph, mapped-end}
use Rattle.rb_agree.proofs.graphs.flattening_graph.Goals as goal

pub returns : goal.returns
returns c =
    is-flat-graph c.args.layouts.now c.loop-layout.graph
    (mapped-end flat_row c.args.layouts.now c.loop-layout.layout-index c.loop-layout.graph (map flat_row c.args.layouts.now) c.loop-layout-test.false c.loop-layout.invariant)
