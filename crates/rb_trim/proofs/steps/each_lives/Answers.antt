use Rattle.std.proofs.Common.{rules, below_more}
use Rattle.rb_trim.proofs.steps.each_lives.Goals as goal

pub loop-k-preserved : goal.loop-k-preserved
loop-k-preserved c = below_more _ _ c.loop-k.invariant (c.lives_at.ensures (search rules))
