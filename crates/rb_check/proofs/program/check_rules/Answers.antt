use Rattle.std.proofs.Common.{Some, None, subst, sym}
use Rattle.rb_check.specs.inner.Answers.{AnswersFault}
use Rattle.rb_check.proofs.ProgramLemmas.{HasFault-fails, rule_fault-opens}
use Rattle.rb_check.proofs.program.check_rules.Goals as goal

pub returns-in_err-check_layouts : goal.returns-in_err-check_layouts
returns-in_err-check_layouts c =
    HasFault-fails _ _ _ _ c.from_residual.ensures.1 c.in_err-check_layouts.ensures
    (λ f e. rule_fault-opens c.args.program.now (Some f) (rw (c.as_slice.ensures, c.as_slice-2.ensures) at e))

pub returns : goal.returns
returns c =
    subst (AnswersFault c.check_functions.result)
    (sym (rule_fault-opens c.args.program.now None (rw (c.as_slice.ensures, c.as_slice-2.ensures) at c.in_ok-check_layouts.ensures)))
    (rw c.as_slice-3.ensures at c.check_functions.ensures)
