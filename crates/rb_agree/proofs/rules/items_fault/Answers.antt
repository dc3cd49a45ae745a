use Rattle.rb_agree.proofs.Lists.{at-item}
use Rattle.rb_agree.proofs.Ruling.{item-fails, item-passes, items-end}
use Rattle.rb_agree.proofs.rules.items_fault.Goals as goal

pub loop-i-init : goal.loop-i-init
loop-i-init c = λ layouts t n r found. found

pub loop-i-preserved : goal.loop-i-preserved
loop-i-preserved c =
    item-passes c.args.program.now c.args.leaf.now c.args.items.now c.as_slice.result.now c.as_slice-in-loop-i.result.now c.loop-i.i c.in_ok-number.number c.index-items-i.result c.in_ok-why.field-0
    c.as_slice.ensures c.as_slice-in-loop-i.ensures c.in_ok-number.ensures c.in_default.is (at-item c.args.items.now c.loop-i.i c.index-items-i.result c.loop-i-test.true c.index-items-i.is)
    c.in_ok-why.ensures c.loop-i.invariant

pub returns-in-Some : goal.returns-in-Some
returns-in-Some c =
    item-fails c.args.program.now c.args.leaf.now c.args.items.now c.as_slice.result.now c.as_slice-in-loop-i.result.now c.loop-i.i c.in_ok-number.number c.index-items-i.result c.in_ok-why.field-0 c.in-Some.why
    c.as_slice.ensures c.as_slice-in-loop-i.ensures c.in_ok-number.ensures c.in-Some.is (at-item c.args.items.now c.loop-i.i c.index-items-i.result c.loop-i-test.true c.index-items-i.is)
    c.in_ok-why.ensures c.loop-i.invariant

pub returns : goal.returns
returns c = items-end c.args.program.now c.args.leaf.now c.args.items.now c.loop-i.i c.loop-i-test.false c.loop-i.invariant
