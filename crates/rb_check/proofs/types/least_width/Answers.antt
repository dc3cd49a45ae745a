use Rattle.std.proofs.Common.{refl, sym, ◌∙◌, arith}
use Rattle.std.proofs.Math.Pow.{pow-lt}
use Rattle.rb_core.specs.Typing.{least_width}
use Rattle.rb_check.proofs.WidthLemmas.{width_from-wider}
use Rattle.rb_check.proofs.types.least_width.Goals as goal

pub loop-width-init : goal.loop-width-init
unfolding least_width
loop-width-init c = refl

pub loop-width-preserved : goal.loop-width-preserved
loop-width-preserved c =
    let room = pow-lt c.loop-width-test.true in
    sym (width_from-wider c.loop-width.width c.args.n c.loop-width-test.true (omega (arith, room))) ∙ c.loop-width.invariant
