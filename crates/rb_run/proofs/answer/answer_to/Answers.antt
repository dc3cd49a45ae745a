use Rattle.std.proofs.Common.{sym, subst}
use Rattle.rb_coding.specs.Decoding.{AreOf}
use Rattle.rb_core.specs.declared.value.Value.{Value}
use Rattle.rb_core.specs.Typing.{result_type}
use Rattle.rb_run.specs.Calling.{IsCalled, IsEndOf}
use Rattle.rb_run.specs.Answering.{meant_by}
use Rattle.rb_run.proofs.Ends.{returned_answer, returned_value}
use Rattle.rb_run.proofs.answer.answer_to.Goals as goal

pub answer_value-requires-clause-represented : goal.answer_value-requires-clause-represented
answer_value-requires-clause-represented c =
    let a = c.args.agreed.now in
    let value = returned_value a c.layouts-flat.ensures.flat c.args.memory.now c.in-Returned.words c.in-Returned.calls_left (subst (λ e. IsEndOf a e c.args.memory.now) c.in-Returned.is c.requires) in
    subst (λ ws. (v : Value) × AreOf a.covered.program c.args.memory.now (result_type a.covered.program.funs a.covered.program.main) ws v) (sym c.as_slice.ensures) value

pub returns-in_ok-answer-in-Returned : goal.returns-in_ok-answer-in-Returned
returns-in_ok-answer-in-Returned c args calls old called =
    let a = c.args.agreed.now in
    returned_answer a c.layouts-flat.ensures.flat c.args.memory.now c.in-Returned.words c.in-Returned.calls_left (meant_by c.in_ok-answer-in-Returned.answer) c.args.nodes
    (λ v are. c.in_ok-answer-in-Returned.ensures v (subst (λ ws. AreOf a.covered.program c.args.memory.now (result_type a.covered.program.funs a.covered.program.main) ws v) (sym c.as_slice.ensures) are))
    args calls old (subst (λ e. IsCalled a args calls old e c.args.memory.now) c.in-Returned.is called)
