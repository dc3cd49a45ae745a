use Rattle.std.proofs.Common.{◌<◌, ◌^◌, refl, arith}
use Rattle.rb_matrix.proofs.Powers.{two-pow-le}
use Rattle.rb_agree.proofs.numbers.fits.Goals as goal

pub returns-then-bits-ge64 : goal.returns-then-bits-ge64
returns-then-bits-ge64 c =
    let less : c.args.number < 2 ^ 64 = c.ranges.number.fits in
    let more = two-pow-le 64 c.args.bits c.if-bits-ge64.true in
    (λ h. omega (arith, less, more), λ h. refl)
