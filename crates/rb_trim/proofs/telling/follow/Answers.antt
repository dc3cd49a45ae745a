use Rattle.std.proofs.Common.{arith, rules, below_more}
use Rattle.rb_trim.proofs.Facts.{follows_all}
use Rattle.rb_trim.proofs.telling.follow.Goals as goal

pub loop-k-preserved : goal.loop-k-preserved
loop-k-preserved c = below_more _ _ c.loop-k.invariant (c.follows_at.ensures (search rules))

pub returns : goal.returns
returns c = λ t. follows_all c.args.facts.now c.args.told c.args.instr.now c.args.behind.now (λ j lt. c.loop-k.invariant j (omega arith))
