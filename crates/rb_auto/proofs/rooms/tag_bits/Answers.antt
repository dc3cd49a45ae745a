use Rattle.std.proofs.Common.{arith}
use Rattle.std.proofs.lemmas.Nat.{one_shl}
use Rattle.rb_auto.proofs.Tags.{tag-init, tag-found, tag-next, tag-last}
use Rattle.rb_auto.proofs.rooms.tag_bits.Goals as goal

pub loop-bits-init : goal.loop-bits-init
loop-bits-init c = tag-init c.args.count

pub returns-then-count-bits : goal.returns-then-count-bits
returns-then-count-bits c = tag-found c.loop-bits.bits c.args.count (omega (arith, c.if-count-bits.true)) c.loop-bits.invariant

pub loop-bits-preserved : goal.loop-bits-preserved
loop-bits-preserved c =
    let same = one_shl c.loop-bits.bits 64 (omega arith) in
    tag-next c.loop-bits.bits c.args.count (omega arith) (omega (arith, c.if-count-bits.false, same)) c.loop-bits.invariant

pub returns : goal.returns
returns c = tag-last c.loop-bits.bits c.args.count (omega arith) c.loop-bits.invariant
