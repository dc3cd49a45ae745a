use Rattle.std.proofs.Common.{rules, refl}
use Rattle.rb_trim.proofs.Fitting.{step_kept, step_out}
use Rattle.rb_trim.proofs.steps.step.Goals as goal

pub returns : goal.returns
returns c =
    step_kept c.args.hints.now c.args.body.now c.args.pc c.args.instr.now c.args.new.now c.push.new.self c.place_at-here.result
    c.in_ok-stands.stands c.place_at-here.ensures (search rules)
    c.in_ok-push.ensures.ok c.in_ok-stands.ensures (c.ends_well.ensures (search rules)) (c.is_known_on.ensures (search rules))

pub returns-then-is_out : goal.returns-then-is_out
returns-then-is_out c =
    step_out c.args.hints.now c.args.body.now c.args.pc c.args.instr.now c.args.new.now c.args.new.now
    refl (c.is_out.ensures (search rules)) (c.ends_well.ensures (search rules)) (c.is_known_on.ensures (search rules))
