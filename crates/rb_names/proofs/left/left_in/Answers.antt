use Rattle.rb_names.specs.Completing.{left_in}
use Rattle.rb_names.proofs.LeftLemmas.{left-next}
use Rattle.rb_names.proofs.left.left_in.Goals as goal

pub loop-item-preserved : goal.loop-item-preserved
loop-item-preserved c =
    left-next c.args.items.now c.loop-item.item-index c.item-item.result c.loop-item-test.true c.item-item.is c.loop-item.left c.add_left.new.left (left_in c.args.items.now)
    c.in_ok-add_left.ensures c.loop-item.invariant
