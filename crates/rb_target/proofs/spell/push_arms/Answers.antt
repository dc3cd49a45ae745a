use Rattle.rb_core.proofs.TextLemmas.{appended}
use Rattle.rb_target.proofs.Texts.{pairs_more}
use Rattle.rb_target.proofs.spell.push_arms.Goals as goal

pub loop-arm-preserved : goal.loop-arm-preserved
loop-arm-preserved c =
    appended _ _ _ _ _ _ c.loop-arm.invariant c.in_ok-push_numbers.ensures (pairs_more c.args.arms.now c.loop-arm.arm-index _ c.loop-arm-test.true)
