use Rattle.rb_show.specs.inner.Ways.{way_lines}
use Rattle.rb_show.proofs.Texts.{flat_next}
use Rattle.rb_show.proofs.show.push_leaves.Goals as goal

pub loop-way-preserved : goal.loop-way-preserved
loop-way-preserved c =
    flat_next (way_lines c.args.types.now c.args.leaves.now) c.args.ways.now c.loop-way.way-index c.way-item.result _ _ _ c.loop-way-test.true c.way-item.is c.loop-way.invariant
    c.in_ok-push_way.ensures
