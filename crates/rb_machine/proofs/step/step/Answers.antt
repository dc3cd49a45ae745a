use Rattle.rb_target.proofs.Unrolling.{target_fits}
use Rattle.std.proofs.Common.{sym, ◌∙◌, length}
use Rattle.rb_machine.proofs.step.step.Goals as goal

pub returns-in-Some-clause-target : goal.returns-in-Some-clause-target
returns-in-Some-clause-target g c =
    let fine = rw c.in-Switch.is at c.requires.fine.targets in
    target_fits (length c.args.fun.now.body) c.args.pc c.as_slice.result.now c.in-Switch.other _ c.in-Some.target (rw c.as_slice.ensures fine.1) fine.0 (sym c.target_of.ensures ∙ c.in-Some.is)
