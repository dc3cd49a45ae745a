use Rattle.std.proofs.Common.{◌<◌, ◌^◌, arith}
use Rattle.std.proofs.lemmas.Bool.Decides.{nat_tests}
use Rattle.std.proofs.Math.Nat.{pow-le-pow_right}
use Rattle.rb_values.proofs.typing.holds.Goals as goal

pub returns-then-bits-ge64 : goal.returns-then-bits-ge64
returns-then-bits-ge64 c =
    let two : 0 < 2 = omega arith in
    let room = pow-le-pow_right two c.if-bits-ge64.true in
    let held : c.args.n < 2 ^ c.in-Int.bits = omega (arith, room, c.ranges.n.fits) in
    rw c.in-Int.is (grind (arith, nat_tests, held))
