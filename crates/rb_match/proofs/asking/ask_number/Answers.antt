use Rattle.rb_facts.proofs.Following.{only-one}
use Rattle.rb_match.proofs.NumberTests.{asks_number, number_stand, number_grows}
use Rattle.rb_match.proofs.asking.ask_number.Goals as goal

pub returns-clause-asks : goal.returns-clause-asks
returns-clause-asks c =
    let one = only-one c.args.reads.now c.read-item.result c.in-len1.len_at_least c.in-len1.len_below c.read-item.is in
    rw (one, c.in_ok-edges.ensures, c.in_ok-push.ensures.ok, c.then_some.ensures, c.is_some.ensures, c.in_ok-ways.ensures.arms, c.len-pc.ensures.value)
    (asks_number c.args.nodes.now c.read-item.result c.args.known.now c.args.arms.now c.args.other c.args.body.now c.make.new.body c.in_ok-slot.slot c.in_ok-slot.ensures.makes c.in_ok-ways.ensures.numbers)

pub returns-clause-stand : goal.returns-clause-stand
returns-clause-stand c =
    rw (c.in_ok-edges.ensures, c.in_ok-push.ensures.ok, c.then_some.ensures, c.is_some.ensures, c.in_ok-ways.ensures.arms, c.len-pc.ensures.value)
    (number_stand c.args.nodes.now c.read-item.result c.args.known.now c.args.arms.now c.args.other c.args.body.now c.make.new.body c.in_ok-slot.slot c.in_ok-slot.ensures.grows)

pub returns-clause-grows : goal.returns-clause-grows
returns-clause-grows c =
    rw (c.in_ok-push.ensures.ok, c.then_some.ensures, c.is_some.ensures, c.in_ok-ways.ensures.arms, c.len-pc.ensures.value)
    (number_grows c.args.nodes.now c.read-item.result c.args.known.now c.args.arms.now c.args.other c.args.body.now c.make.new.body c.in_ok-slot.slot c.in_ok-slot.ensures.grows)
