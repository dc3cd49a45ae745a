-- The text of valid code is executed as just that code.
use Rattle.std.proofs.Common.{List, refl, sym, ap, ◌∙◌, subst}
use Rattle.rb_target.specs.declared.code.CodeFun.{CodeFun}
use Rattle.rb_target.specs.Faults.{FaultStands}
use Rattle.rb_target.specs.Stopping.{IsTextOf}
use Rattle.rb_target.specs.Text.{code_text}
use Rattle.rb_target.specs.Validity.{IsValid}
use Rattle.rb_target.proofs.Checks.{not_valid}
use Rattle.rb_target.proofs.ReadLemmas.{text_of_valid}
use Rattle.rb_target.proofs.StopLemmas.{none_whole, one_text}
use Rattle.ribbit_tool.specs.Exec.{executed, faulty, no_code, exec_due}
use Rattle.ribbit_tool.specs.Laws.{AreExecuted}

own_text : (funs : List CodeFun) → IsValid funs → IsTextOf (code_text funs) funs
own_text funs valid = text_of_valid (code_text funs) funs valid refl

pub executed_themselves : AreExecuted
executed_themselves funs valid name limits words due (executed other right is d) =
    d ∙ ap (λ (f : List CodeFun). exec_due f name limits words)
    (one_text other funs (text_of_valid (code_text funs) other right is).spelled (own_text funs valid).spelled (sym is))
executed_themselves funs valid name limits words due (faulty other text fault first d) =
    let same = one_text other funs text.spelled (own_text funs valid).spelled (sym text.is) in
    absurd (not_valid funs fault (subst (λ (f : List CodeFun). FaultStands f fault) same first.stands) valid)
executed_themselves funs valid name limits words due (no_code at stops d) =
    absurd (none_whole (code_text funs) at funs stops (own_text funs valid))
