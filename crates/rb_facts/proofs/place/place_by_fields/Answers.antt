use Rattle.std.proofs.Common.{get_or, sym, subst}
use Rattle.rb_fragment.proofs.MakingAll.{take_all}
use Rattle.rb_decide.proofs.Building.{get-same}
use Rattle.rb_decide.proofs.Moving.{take-next}
use Rattle.rb_facts.specs.Places.{FindsPlace}
use Rattle.rb_facts.proofs.place.place_by_fields.Goals as goal

pub loop-i-preserved : goal.loop-i-preserved
loop-i-preserved c =
    subst (λ position. FindsPlace c.args.agreed.now c.args.ty c.args.words.now c.args.spots.now c.args.known.now position c.in_ok-place.place)
    (sym (take-next c.args.position.now c.loop-i.i (get_or c.args.position.now c.loop-i.i 0) c.loop-i-test.true (get-same c.args.position.now c.loop-i.i 0 (get_or c.args.position.now c.loop-i.i 0) c.loop-i-test.true)))
    (c.in_ok-place.ensures c.args.ty c.args.words.now c.args.spots.now c.loop-i.invariant)

pub loop-i-init : goal.loop-i-init
loop-i-init c = c.in_ok-begun.ensures.1

pub returns : goal.returns
returns c =
    subst (λ position. FindsPlace c.args.agreed.now c.args.ty c.args.words.now c.args.spots.now c.args.known.now position c.loop-i.place)
    (take_all c.args.position.now c.loop-i.i c.loop-i-test.false) c.loop-i.invariant
