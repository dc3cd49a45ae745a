use Rattle.std.proofs.Common.{codes, refl}
use Rattle.rb_core.proofs.TextLemmas.{two}
use Rattle.rb_show.proofs.Texts.{literals_next}
use Rattle.rb_show.proofs.condition.push_others.Goals as goal

pub loop-arm-preserved : goal.loop-arm-preserved
loop-arm-preserved c =
    literals_next c.args.arms.now c.loop-arm.arm-index c.arm-item.result _ _ _ c.loop-arm-test.true c.arm-item.is c.loop-arm.invariant
    (two _ (codes ", ") _ _ _ _ c.in_ok-push.ensures.ok refl c.in_ok-push_number.ensures.ok)
