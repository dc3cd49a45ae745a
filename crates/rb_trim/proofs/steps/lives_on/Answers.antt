use Rattle.std.proofs.Common.{arith}
use Rattle.rb_trim.proofs.Fitting.{all_live}
use Rattle.rb_trim.proofs.steps.lives_on.Goals as goal

pub returns : goal.returns
returns c = λ t.
    all_live c.args.hints.now c.args.pc c.args.instr.now c.args.target c.unread_at.result.now (omega (arith, c.if-target-pc.false))
    c.unread_at.ensures (c.each_lives.ensures t)
