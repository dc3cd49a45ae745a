use Rattle.rb_fragment.proofs.Arms.{joined_is}
use Rattle.rb_fragment.proofs.join.emit_join.Goals as goal

pub returns : goal.returns
returns c =
    let copied = rw (c.as_slice.ensures, c.as_slice-2.ensures) at c.in_ok-emit_copies.ensures in
    joined_is c.args.into c.args.held.now c.args.body.now c.shared_slots.new.body c.emit_copies.new.body c.push.new.self c.in_ok-into.into c.len-pc.result
    c.in_ok-into.ensures.held c.in_ok-into.ensures.code copied c.len-pc.ensures.value c.in_ok-push.ensures.ok
