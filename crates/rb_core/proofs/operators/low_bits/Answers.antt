use Rattle.std.proofs.Common.{◌<◌, ◌^◌, arith, sym}
use Rattle.std.proofs.Math.Nat.{pow-le-pow_right, mod-eq_of_lt}
use Rattle.rb_core.proofs.operators.low_bits.Goals as goal

pub returns-then-bits-ge64 : goal.returns-then-bits-ge64
returns-then-bits-ge64 c =
    let two : 0 < 2 = omega arith in
    let room = pow-le-pow_right two c.if-bits-ge64.true in
    let held : c.args.n < 2 ^ c.args.bits = omega (arith, room, c.ranges.n.fits) in sym (mod-eq_of_lt held)
