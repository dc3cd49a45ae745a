use Rattle.std.proofs.Common.{rules, below_more}
use Rattle.rb_trim.proofs.returning.has_arms.Goals as goal

pub loop-number-preserved : goal.loop-number-preserved
loop-number-preserved c = below_more _ _ c.loop-number.invariant (c.has_arm.ensures (search rules))
