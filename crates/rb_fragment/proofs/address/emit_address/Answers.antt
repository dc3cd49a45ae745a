use Rattle.rb_target.proofs.Growing.{Grows-append, Grows-trans}
use Rattle.rb_fragment.proofs.Making.{made_address, made_masked, made_scaled}
use Rattle.rb_fragment.proofs.address.emit_address.Goals as goal

pub returns-in_ok-slot-in-Some-clause-makes : goal.returns-in_ok-slot-in-Some-clause-makes
returns-in_ok-slot-in-Some-clause-makes c plan r a k fit made =
    let e = c.in-Some.ensures in
    rw (c.in_ok-slot-in-Some.ensures.code, c.in_ok-slot-in-Some.ensures.slot, c.in_ok-kept-in-Some.ensures.code, c.in_ok-kept-in-Some.ensures.slot, e.2)
    (made_masked plan r c.args.o c.args.l a c.args.body.now c.args.from e.0 made c.args.align e.1)

pub returns-in_ok-slot-in-Some-clause-grows : goal.returns-in_ok-slot-in-Some-clause-grows
returns-in_ok-slot-in-Some-clause-grows c =
    rw (c.in_ok-slot-in-Some.ensures.code, c.in_ok-kept-in-Some.ensures.code) (Grows-trans c.args.body.now.code _ _ (Grows-append c.args.body.now.code _) (Grows-append _ _))

pub returns-then-is_whole-clause-makes : goal.returns-then-is_whole-clause-makes
returns-then-is_whole-clause-makes c plan r a k fit made =
    let whole = c.is_whole.ensures c.if-is_whole.true in
    rw (c.in_ok-slot-in-None.ensures.code, c.in_ok-slot-in-None.ensures.slot)
    (made_scaled plan r c.args.o c.args.l c.args.align a c.args.body.now c.args.from whole.0 whole.1 c.in_ok-slot-in-None.ensures.small made)

pub returns-then-is_whole-clause-grows : goal.returns-then-is_whole-clause-grows
returns-then-is_whole-clause-grows c =
    rw c.in_ok-slot-in-None.ensures.code (Grows-trans c.args.body.now.code _ _ (Grows-append c.args.body.now.code _) (Grows-append _ _))

pub returns-in_ok-slot-in-None-2-clause-makes : goal.returns-in_ok-slot-in-None-2-clause-makes
returns-in_ok-slot-in-None-2-clause-makes c plan r a k fit made =
    rw (c.in_ok-slot-in-None-2.ensures.code, c.in_ok-slot-in-None-2.ensures.slot, c.in_ok-part-in-None.ensures.code, c.in_ok-part-in-None.ensures.slot)
    (made_address plan r c.args.o c.args.l c.args.align a c.args.body.now c.args.from k fit c.in_ok-slot-in-None-2.ensures.small made)

pub returns-in_ok-slot-in-None-2-clause-grows : goal.returns-in_ok-slot-in-None-2-clause-grows
returns-in_ok-slot-in-None-2-clause-grows c =
    rw (c.in_ok-slot-in-None-2.ensures.code, c.in_ok-part-in-None.ensures.code)
    (Grows-trans c.args.body.now.code _ _ (Grows-append c.args.body.now.code _) (Grows-trans _ _ _ (Grows-append _ _) (Grows-append _ _)))
