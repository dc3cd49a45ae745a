use Rattle.rb_names.proofs.LeftLemmas.{kinds-next}
use Rattle.rb_names.proofs.left.kinds_by.Goals as goal

pub loop-item-preserved : goal.loop-item-preserved
loop-item-preserved c =
    kinds-next c.args.items.now c.loop-item.item-index c.item-item.result c.loop-item-test.true c.item-item.is c.args.left.now c.loop-item.kinds c.add_kind.new.kinds _
    c.in_ok-add_kind.ensures c.loop-item.invariant
