use Rattle.std.proofs.Common.{◌<◌, ◌≤◌, ◌^◌, lit<, refl, arith}
use Rattle.std.proofs.Math.Nat.{pow-le-pow_right}
use Rattle.rb_image.proofs.roots.fits.Goals as goal

pub returns-then-width-ge64 : goal.returns-then-width-ge64
returns-then-width-ge64 c =
    let less : c.args.word < 2 ^ 64 = c.ranges.word.fits in
    let more : 2 ^ 64 ≤ 2 ^ c.args.width = pow-le-pow_right (lit< tt) c.if-width-ge64.true in
    (λ h. omega (arith, less, more), λ h. refl)
