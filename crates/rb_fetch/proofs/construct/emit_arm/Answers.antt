use Rattle.std.proofs.Common.{length, refl}
use Rattle.std.proofs.lemmas.Option.{slice_get_read}
use Rattle.rb_target.proofs.Growing.{Grows-trans}
use Rattle.rb_fetch.proofs.Meeting.{arm_emits, met_join, met_starts}
use Rattle.rb_fetch.proofs.construct.emit_arm.Goals as goal

pub returns-clause-emits : goal.returns-clause-emits
returns-clause-emits c =
    let l = c.in-Some.ensures.lookup in
    let at = slice_get_read c.args.leaves.now (length c.args.leaves.now) c.args.way.now.leaf c.in-Some.leaf.now refl l.3.0 l.1 in
    arm_emits c.args.ty c.args.leaves.now c.args.way.now c.args.into c.in-Some.leaf.now c.in_ok-slots.slots c.args.body.now c.emit_leaf.new.body c.emit_meeting.new.body c.in_ok-met.met at
    (rw c.as_slice.ensures at c.in_ok-slots.ensures.makes) c.in_ok-met.ensures

pub returns-clause-join : goal.returns-clause-join
returns-clause-join c =
    met_starts c.args.into c.in_ok-slots.slots c.args.body.now c.emit_leaf.new.body c.emit_meeting.new.body c.in_ok-met.met c.in_ok-slots.ensures.grows c.in_ok-met.ensures

pub returns-clause-grows : goal.returns-clause-grows
returns-clause-grows c =
    Grows-trans c.args.body.now.code c.emit_leaf.new.body.code c.emit_meeting.new.body.code c.in_ok-slots.ensures.grows
    (met_join c.args.into c.in_ok-slots.slots c.emit_leaf.new.body c.emit_meeting.new.body c.in_ok-met.met c.in_ok-met.ensures).1
