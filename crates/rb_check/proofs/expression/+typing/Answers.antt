use Rattle.std.proofs.Common.{sym, ◌∙◌, ap, Some}
use Rattle.rb_core.specs.declared.expression.Expr as X
use Rattle.rb_core.specs.declared.expression.Expr.{Expr}
use Rattle.rb_core.specs.Typing.{type_of, rule_of}
use Rattle.rb_core.proofs.TypingLemmas.{type-Call, type-Build, type-Binary}
use Rattle.rb_check.proofs.AnswerLemmas.{Answers-fails, Answers-Leaves}
use Rattle.rb_check.proofs.ExpressionLemmas.{Answers-at, argument-next, argument-fails, clause-binds, clause-fails}
use Rattle.rb_check.proofs.expression.+typing.Goals as goal

pub type_expression-returns-in-Call-clause-answers : goal.type_expression-returns-in-Call-clause-answers
type_expression-returns-in-Call-clause-answers t c =
    Answers-at c.args.program.now.types c.args.program.now.funs _ _ _ c.args.wanted c.args.scope.now _
    (c.in-Call.is ∙ ap (X.Call c.in-Call.at c.in-Call.fun) (sym c.as_slice-parts.ensures))
    (type-Call c.args.program.now.types c.args.program.now.funs c.in-Call.at c.in-Call.fun c.as_slice-parts.result.now c.args.wanted c.args.scope.now)
    c.type_call.ensures.answers

pub type_expression-returns-in-Build-clause-answers : goal.type_expression-returns-in-Build-clause-answers
type_expression-returns-in-Build-clause-answers t c =
    Answers-at c.args.program.now.types c.args.program.now.funs _ _ _ c.args.wanted c.args.scope.now _
    (c.in-Build.is ∙ ap (X.Build c.in-Build.at c.in-Build.con) (sym c.as_slice-parts-in-Build.ensures))
    (type-Build c.args.program.now.types c.args.program.now.funs c.in-Build.at c.in-Build.con c.as_slice-parts-in-Build.result.now c.args.wanted c.args.scope.now)
    c.type_build.ensures.answers

pub type_expression-returns-in-Binary-clause-answers : goal.type_expression-returns-in-Binary-clause-answers
type_expression-returns-in-Binary-clause-answers t c =
    Answers-at c.args.program.now.types c.args.program.now.funs _ _ _ c.args.wanted c.args.scope.now _
    (c.in-Binary.is ∙ ap (λ (a : Expr). X.Binary c.in-Binary.at c.in-Binary.op a c.in-Binary.b) (sym c.get-a.ensures)
    ∙ ap (X.Binary c.in-Binary.at c.in-Binary.op c.get-a.result.now) (sym c.get-b.ensures))
    (type-Binary c.args.program.now.types c.args.program.now.funs c.in-Binary.at c.in-Binary.op c.get-a.result.now c.get-b.result.now c.args.wanted c.args.scope.now)
    c.type_binary.ensures.answers

pub type_arguments-returns-in_err-type_expression-clause-answers : goal.type_arguments-returns-in_err-type_expression-clause-answers
type_arguments-returns-in_err-type_expression-clause-answers t c =
    Answers-fails _ _ _ _ c.from_residual.ensures.1 c.in_err-type_expression.ensures.answers
    (λ f e. sym c.loop-i.invariant.gives
    ∙ argument-fails (rule_of c.args.program.now.types c.args.program.now.funs) c.args.scope.now _ _ _ _ _ f
    c.loop-i-test.true c.loop-i.invariant.same_number c.index-parts-i.is c.at.ensures
    (ap (type_of c.args.program.now.types c.args.program.now.funs c.index-parts-i.result (Some c.at.result)) (sym c.loop-i.invariant.scope) ∙ e))

pub type_arguments-loop-i-preserved : goal.type_arguments-loop-i-preserved
type_arguments-loop-i-preserved t c = record {
  same_number = c.loop-i.invariant.same_number;
  scope = c.in_ok-type_expression.ensures.scope ∙ c.loop-i.invariant.scope;
  gives = sym (argument-next (rule_of c.args.program.now.types c.args.program.now.funs) c.args.scope.now _ _ _ _ _ _
      c.loop-i-test.true c.loop-i.invariant.same_number c.index-parts-i.is c.at.ensures
      (ap (type_of c.args.program.now.types c.args.program.now.funs c.index-parts-i.result (Some c.at.result)) (sym c.loop-i.invariant.scope)
      ∙ c.in_ok-type_expression.ensures.answers))
      ∙ c.loop-i.invariant.gives;
}

pub type_clause-returns-in_err-bind_whole-clause-answers : goal.type_clause-returns-in_err-bind_whole-clause-answers
type_clause-returns-in_err-bind_whole-clause-answers t c =
    Answers-fails _ _ _ _ c.from_residual.ensures.1 (Answers-Leaves _ _ _ c.in_err-bind_whole.ensures.binds)
    (λ f e. clause-fails c.args.program.now.types c.args.program.now.funs c.args.case.now c.args.scrutinee c.args.wanted c.args.scope.now f
    (rw c.as_slice.ensures at e))

pub type_clause-returns-in_err-found-clause-answers : goal.type_clause-returns-in_err-found-clause-answers
type_clause-returns-in_err-found-clause-answers t c =
    Answers-fails _ _ _ _ c.from_residual-in_err-found.ensures.1 c.in_err-found.ensures.answers
    (λ f e. clause-binds c.args.program.now.types c.args.program.now.funs c.args.case.now c.args.scrutinee c.args.wanted c.args.scope.now _
    (rw c.as_slice.ensures at c.in_ok-bind_whole.ensures.binds) ∙ e)

pub type_clause-returns-clause-answers : goal.type_clause-returns-clause-answers
type_clause-returns-clause-answers t c =
    clause-binds c.args.program.now.types c.args.program.now.funs c.args.case.now c.args.scrutinee c.args.wanted c.args.scope.now _
    (rw c.as_slice.ensures at c.in_ok-bind_whole.ensures.binds) ∙ c.in_ok-found.ensures.answers
