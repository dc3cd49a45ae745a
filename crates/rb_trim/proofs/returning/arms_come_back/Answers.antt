use Rattle.std.proofs.Common.{arith, below_more}
use Rattle.rb_trim.proofs.Fitting.{arms_back}
use Rattle.rb_trim.proofs.returning.arms_come_back.Goals as goal

pub loop-k-preserved : goal.loop-k-preserved
loop-k-preserved c = below_more _ _ c.loop-k.invariant c.in_ok-arm_comes_back.ensures

pub returns : goal.returns
returns c = arms_back c.args.hints.now c.args.body.now c.args.words.now c.args.arms.now (λ j lt. c.loop-k.invariant j (omega arith))
