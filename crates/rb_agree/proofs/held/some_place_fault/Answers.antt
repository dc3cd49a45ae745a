use Rattle.rb_agree.proofs.Lists.{before-more, before-all}
use Rattle.rb_agree.proofs.Holding.{ShownFails, ShownHolds, where-none}
use Rattle.rb_agree.proofs.held.some_place_fault.Goals as goal

pub loop-n-preserved : goal.loop-n-preserved
loop-n-preserved c =
    let p = c.args.program.now in
    let leaf = c.args.leaf.now in
    before-more (ShownHolds p leaf) c.args.places.now c.loop-n.n c.index-places-n.result c.loop-n-test.true c.index-places-n.is
    (where-none c.in_ok-why.field-0 (ShownHolds p leaf c.index-places-n.result) (ShownFails p leaf c.index-places-n.result) c.in_ok-why.ensures c.in_default.is) c.loop-n.invariant

pub returns : goal.returns
returns c = before-all (ShownHolds c.args.program.now c.args.leaf.now) c.args.places.now c.loop-n.n c.loop-n-test.false c.loop-n.invariant
