use Rattle.rb_names.proofs.LeftLemmas.{numbers-next, numbers-end}
use Rattle.rb_names.proofs.left.numbers_by.Goals as goal

pub loop-item-preserved : goal.loop-item-preserved
loop-item-preserved c =
    numbers-next c.args.types.now c.args.items.now c.loop-item.item-index c.item-item.result c.loop-item.numbers c.add_number.new.numbers _ c.loop-item-test.true c.item-item.is
    c.in_ok-add_number.ensures c.loop-item.invariant

pub returns : goal.returns
returns c = numbers-end c.args.types.now c.args.items.now c.loop-item.item-index c.loop-item.numbers _ c.loop-item-test.false c.loop-item.invariant
