use Rattle.std.proofs.Common.{arith, rules, below_more}
use Rattle.rb_trim.proofs.Fitting.{arms_all}
use Rattle.rb_trim.proofs.steps.arms_jump_on.Goals as goal

pub loop-k-preserved : goal.loop-k-preserved
loop-k-preserved c = below_more _ _ c.loop-k.invariant (c.arm_jumps_on.ensures (search rules))

pub returns : goal.returns
returns c = λ t. arms_all c.args.hints.now c.args.pc c.args.instr.now c.args.slot c.args.arms.now (λ j lt. c.loop-k.invariant j (omega arith))
