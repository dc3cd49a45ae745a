use Rattle.std.proofs.Common.{◌∷◌, map, drop, sym, ap, ◌∙◌, subst}
use Rattle.rb_core.specs.declared.expression.Expr as core
use Rattle.rb_names.specs.Numbering.{in_turn, numbered_expression}
use Rattle.rb_names.specs.inner.Parts.{AnswersFrom, numbered_clause}
use Rattle.rb_names.specs.inner.Frames.{scope_of}
use Rattle.rb_names.proofs.AnswerLemmas.{Answers-from, turn-next, turn-fails, turn-end}
use Rattle.rb_names.proofs.FormLemmas.{From-fails, name-fails, parts-fail, named-found, first-fails, second-fails, both-found, alone-fails, alone-found, type-fails, bound-fails, body-fails, let-found, is-Num, var-fails, var-found, is-Let, is-Call, is-Build, is-Binary, is-To, is-Match}
use Rattle.rb_names.proofs.PartLemmas.{clause-pattern, clause-body, clause-found}
use Rattle.rb_names.proofs.expression.+expression.Goals as goal

pub number_clause-returns-clause-answers : goal.number_clause-returns-clause-answers
number_clause-returns-clause-answers t c =
    clause-found c.args.tables.now c.args.tree.now (scope_of c.args.scope.now) (scope_of c.enter_pattern.new.scope) c.args.next.now c.enter_pattern.new.next
    c.in_ok-enter_pattern.ensures.scope c.in_ok-enter_pattern.ensures.next
    c.in_ok-pat.pat (record { what = c.in_ok-body.body; next = c.number_expression.new.next }) c.in_ok-pat.ensures c.in_ok-body.ensures.answers

pub number_clauses-loop-tree-preserved : goal.number_clauses-loop-tree-preserved
number_clauses-loop-tree-preserved t c = record {
  scope = c.in_ok-clause.ensures.scope ∙ c.loop-tree.invariant.scope;
  gives = turn-next (numbered_clause c.args.tables.now) (scope_of c.args.scope.now) c.args.trees.now c.loop-tree.tree-index c.tree-item.result c.loop-tree.clauses c.push.new.self c.in_ok-clause.clause
      c.loop-tree.next c.number_clause.new.next c.loop-tree-test.true c.tree-item.is c.in_ok-push.ensures.ok
      (ap (λ s. numbered_clause c.args.tables.now c.tree-item.result (scope_of s) c.loop-tree.next) (sym c.loop-tree.invariant.scope) ∙ c.in_ok-clause.ensures.answers)
      ∙ c.loop-tree.invariant.gives;
}

pub number_expressions-loop-tree-preserved : goal.number_expressions-loop-tree-preserved
number_expressions-loop-tree-preserved t c = record {
  scope = c.in_ok-expr.ensures.scope ∙ c.loop-tree.invariant.scope;
  gives = turn-next (numbered_expression c.args.tables.now) (scope_of c.args.scope.now) c.args.trees.now c.loop-tree.tree-index c.tree-item.result c.loop-tree.exprs c.push.new.self c.in_ok-expr.expr
      c.loop-tree.next c.number_expression.new.next c.loop-tree-test.true c.tree-item.is c.in_ok-push.ensures.ok
      (ap (λ s. numbered_expression c.args.tables.now c.tree-item.result (scope_of s) c.loop-tree.next) (sym c.loop-tree.invariant.scope) ∙ c.in_ok-expr.ensures.answers)
      ∙ c.loop-tree.invariant.gives;
}

pub number_clauses-returns-in_err-clause-clause-answers : goal.number_clauses-returns-in_err-clause-clause-answers
number_clauses-returns-in_err-clause-clause-answers t c =
    From-fails _ _ _ _ _ c.from_residual.ensures.1 (Answers-from _ _ _ c.in_err-clause.ensures.answers) (λ f h.
    turn-fails (numbered_clause c.args.tables.now) (scope_of c.args.scope.now) c.args.trees.now c.loop-tree.tree-index c.tree-item.result c.loop-tree.clauses c.loop-tree.next c.loop-tree-test.true c.tree-item.is
    _ c.loop-tree.invariant.gives f (ap (λ s. numbered_clause c.args.tables.now c.tree-item.result (scope_of s) c.loop-tree.next) (sym c.loop-tree.invariant.scope) ∙ h))

pub number_clauses-returns-clause-answers : goal.number_clauses-returns-clause-answers
number_clauses-returns-clause-answers t c =
    turn-end (numbered_clause c.args.tables.now) (scope_of c.args.scope.now) c.args.trees.now c.loop-tree.tree-index c.loop-tree.clauses c.loop-tree.next c.loop-tree-test.false _ c.loop-tree.invariant.gives

pub number_expressions-returns-in_err-expr-clause-answers : goal.number_expressions-returns-in_err-expr-clause-answers
number_expressions-returns-in_err-expr-clause-answers t c =
    From-fails _ _ _ _ _ c.from_residual.ensures.1 (Answers-from _ _ _ c.in_err-expr.ensures.answers) (λ f h.
    turn-fails (numbered_expression c.args.tables.now) (scope_of c.args.scope.now) c.args.trees.now c.loop-tree.tree-index c.tree-item.result c.loop-tree.exprs c.loop-tree.next c.loop-tree-test.true c.tree-item.is
    _ c.loop-tree.invariant.gives f (ap (λ s. numbered_expression c.args.tables.now c.tree-item.result (scope_of s) c.loop-tree.next) (sym c.loop-tree.invariant.scope) ∙ h))

pub number_expressions-returns-clause-answers : goal.number_expressions-returns-clause-answers
number_expressions-returns-clause-answers t c =
    turn-end (numbered_expression c.args.tables.now) (scope_of c.args.scope.now) c.args.trees.now c.loop-tree.tree-index c.loop-tree.exprs c.loop-tree.next c.loop-tree-test.false _ c.loop-tree.invariant.gives

pub number_clause-returns-in_err-pat-clause-answers : goal.number_clause-returns-in_err-pat-clause-answers
number_clause-returns-in_err-pat-clause-answers t c =
    From-fails _ _ _ _ _ c.from_residual-in_err-pat.ensures.1 c.in_err-pat.ensures
    (clause-pattern c.args.tables.now c.args.tree.now (scope_of c.args.scope.now) (scope_of c.enter_pattern.new.scope) c.args.next.now c.enter_pattern.new.next
    c.in_ok-enter_pattern.ensures.scope c.in_ok-enter_pattern.ensures.next)

pub number_clause-returns-in_err-body-clause-answers : goal.number_clause-returns-in_err-body-clause-answers
number_clause-returns-in_err-body-clause-answers t c =
    From-fails _ _ _ _ _ c.from_residual-in_err-body.ensures.1 (Answers-from _ _ _ c.in_err-body.ensures.answers) (λ f h.
    clause-body c.args.tables.now c.args.tree.now (scope_of c.args.scope.now) (scope_of c.enter_pattern.new.scope) c.args.next.now c.enter_pattern.new.next
    c.in_ok-enter_pattern.ensures.scope c.in_ok-enter_pattern.ensures.next c.in_ok-pat.pat f c.in_ok-pat.ensures h)

pub number_clause-returns-clause-scope : goal.number_clause-returns-clause-scope
number_clause-returns-clause-scope t c = c.leave.ensures ∙ ap (drop 1) c.in_ok-body.ensures.scope ∙ c.in_ok-enter_pattern.ensures.outer

-- a `let`
pub number_let-returns-in_err-ty-clause-answers : goal.number_let-returns-in_err-ty-clause-answers
number_let-returns-in_err-ty-clause-answers t c =
    From-fails _ _ _ _ _ c.from_residual.ensures.1 c.in_err-ty.ensures (type-fails c.args.tables.now c.args.at c.args.name.now c.args.ty.now c.args.a.now c.args.b.now (scope_of c.args.scope.now) c.args.next.now)

pub number_let-returns-in_err-bound-clause-answers : goal.number_let-returns-in_err-bound-clause-answers
number_let-returns-in_err-bound-clause-answers t c =
    From-fails _ _ _ _ _ c.from_residual-in_err-bound.ensures.1 (Answers-from _ _ _ c.in_err-bound.ensures.answers)
    (bound-fails c.args.tables.now c.args.at c.args.name.now c.args.ty.now c.args.a.now c.args.b.now (scope_of c.args.scope.now) c.args.next.now c.in_ok-ty.ty c.in_ok-ty.ensures
    c.fresh.new.next c.in_ok-var.ensures.next.1)

pub number_let-returns-in_err-body-clause-answers : goal.number_let-returns-in_err-body-clause-answers
number_let-returns-in_err-body-clause-answers t c =
    From-fails _ _ _ _ _ c.from_residual-in_err-body.ensures.1 (Answers-from _ _ _ c.in_err-body.ensures.answers)
    (body-fails c.args.tables.now c.args.at c.args.name.now c.args.ty.now c.args.a.now c.args.b.now (scope_of c.args.scope.now) c.args.next.now c.in_ok-ty.ty c.in_ok-ty.ensures
    c.fresh.new.next c.in_ok-var.ensures.next.1 (record { what = c.in_ok-bound.bound; next = c.number_boxed.new.next }) c.in_ok-bound.ensures.answers
    c.in_ok-var.var c.in_ok-var.ensures.next.0 (scope_of c.enter_one.new.self)
    (c.in_ok-enter_one.ensures.scope ∙ ap (λ n. (n, c.in_ok-var.var) ∷ scope_of c.number_boxed.new.scope) c.as_slice.ensures
    ∙ ap (λ s. (c.args.name.now.text, c.in_ok-var.var) ∷ scope_of s) c.in_ok-bound.ensures.scope))

pub number_let-returns-clause-answers : goal.number_let-returns-clause-answers
number_let-returns-clause-answers t c =
    let-found c.args.tables.now c.args.at c.args.name.now c.args.ty.now c.args.a.now c.args.b.now (scope_of c.args.scope.now) c.args.next.now c.in_ok-ty.ty c.in_ok-ty.ensures
    c.fresh.new.next c.in_ok-var.ensures.next.1 (record { what = c.in_ok-bound.bound; next = c.number_boxed.new.next }) c.in_ok-bound.ensures.answers
    c.in_ok-var.var c.in_ok-var.ensures.next.0 (scope_of c.enter_one.new.self)
    (c.in_ok-enter_one.ensures.scope ∙ ap (λ n. (n, c.in_ok-var.var) ∷ scope_of c.number_boxed.new.scope) c.as_slice.ensures
    ∙ ap (λ s. (c.args.name.now.text, c.in_ok-var.var) ∷ scope_of s) c.in_ok-bound.ensures.scope)
    (record { what = c.in_ok-body.body; next = c.number_boxed-2.new.next }) c.in_ok-body.ensures.answers

pub number_let-returns-clause-scope : goal.number_let-returns-clause-scope
number_let-returns-clause-scope t c = c.leave.ensures ∙ ap (drop 1) c.in_ok-body.ensures.scope ∙ c.in_ok-enter_one.ensures.outer ∙ c.in_ok-bound.ensures.scope

-- the forms
pub number_expression-returns-in-Num-clause-answers : goal.number_expression-returns-in-Num-clause-answers
number_expression-returns-in-Num-clause-answers t c = is-Num c.args.tables.now c.args.tree.now (scope_of c.args.scope.now) c.args.next.now c.in-Num.at c.in-Num.n c.in-Num.is

pub number_expression-returns-in_err-var-in-Var-clause-answers : goal.number_expression-returns-in_err-var-in-Var-clause-answers
number_expression-returns-in_err-var-in-Var-clause-answers t c =
    From-fails _ _ _ _ _ c.from_residual.ensures.1 c.in_err-var-in-Var.ensures
    (var-fails c.args.tables.now c.args.tree.now (scope_of c.args.scope.now) c.args.next.now c.in-Var.at c.in-Var.name c.in-Var.is)

pub number_expression-returns-in_ok-var-in-Var-clause-answers : goal.number_expression-returns-in_ok-var-in-Var-clause-answers
number_expression-returns-in_ok-var-in-Var-clause-answers t c =
    var-found c.args.tables.now c.args.tree.now (scope_of c.args.scope.now) c.args.next.now c.in-Var.at c.in-Var.name c.in-Var.is c.in_ok-var-in-Var.var c.in_ok-var-in-Var.ensures

pub number_expression-returns-in-Let-clause-answers : goal.number_expression-returns-in-Let-clause-answers
number_expression-returns-in-Let-clause-answers t c =
    subst (AnswersFrom c.number_let.result c.number_let.new.next)
    (sym (is-Let c.args.tables.now c.args.tree.now (scope_of c.args.scope.now) c.args.next.now c.in-Let.at c.in-Let.name c.in-Let.ty c.in-Let.a c.in-Let.b c.in-Let.is))
    c.number_let.ensures.answers

pub number_expression-returns-in_err-fun-in-Call-clause-answers : goal.number_expression-returns-in_err-fun-in-Call-clause-answers
number_expression-returns-in_err-fun-in-Call-clause-answers t c =
    From-fails _ _ _ _ _ c.from_residual-in_err-fun-in-Call.ensures.1 c.in_err-fun-in-Call.ensures
    (λ f h. is-Call c.args.tables.now c.args.tree.now (scope_of c.args.scope.now) c.args.next.now c.in-Call.at c.in-Call.name c.in-Call.args c.in-Call.is ∙ name-fails (core.Call c.in-Call.at) _ _ f h)

pub number_expression-returns-in_err-args-in-Call-clause-answers : goal.number_expression-returns-in_err-args-in-Call-clause-answers
number_expression-returns-in_err-args-in-Call-clause-answers t c =
    From-fails _ _ _ _ _ c.from_residual-in_err-args-in-Call.ensures.1 (Answers-from _ _ _ c.in_err-args-in-Call.ensures.answers)
    (λ f h. is-Call c.args.tables.now c.args.tree.now (scope_of c.args.scope.now) c.args.next.now c.in-Call.at c.in-Call.name c.in-Call.args c.in-Call.is ∙ parts-fail (core.Call c.in-Call.at) _ _ c.in_ok-fun-in-Call.fun f c.in_ok-fun-in-Call.ensures (sym (ap (λ us. in_turn (map (numbered_expression c.args.tables.now) us) (scope_of c.args.scope.now) c.args.next.now) c.as_slice.ensures) ∙ h))

pub number_expression-returns-in_ok-args-in-Call-clause-answers : goal.number_expression-returns-in_ok-args-in-Call-clause-answers
number_expression-returns-in_ok-args-in-Call-clause-answers t c =
    is-Call c.args.tables.now c.args.tree.now (scope_of c.args.scope.now) c.args.next.now c.in-Call.at c.in-Call.name c.in-Call.args c.in-Call.is
    ∙ named-found (core.Call c.in-Call.at) _ _ c.in_ok-fun-in-Call.fun (record { what = c.in_ok-args-in-Call.args; next = c.number_expressions.new.next }) c.in_ok-fun-in-Call.ensures (sym (ap (λ us. in_turn (map (numbered_expression c.args.tables.now) us) (scope_of c.args.scope.now) c.args.next.now) c.as_slice.ensures) ∙ c.in_ok-args-in-Call.ensures.answers)

pub number_expression-returns-in_err-con-in-Build-clause-answers : goal.number_expression-returns-in_err-con-in-Build-clause-answers
number_expression-returns-in_err-con-in-Build-clause-answers t c =
    From-fails _ _ _ _ _ c.from_residual-in_err-con-in-Build.ensures.1 c.in_err-con-in-Build.ensures
    (λ f h. is-Build c.args.tables.now c.args.tree.now (scope_of c.args.scope.now) c.args.next.now c.in-Build.at c.in-Build.name c.in-Build.fields c.in-Build.is ∙ name-fails (core.Build c.in-Build.at) _ _ f h)

pub number_expression-returns-in_err-fields-in-Build-clause-answers : goal.number_expression-returns-in_err-fields-in-Build-clause-answers
number_expression-returns-in_err-fields-in-Build-clause-answers t c =
    From-fails _ _ _ _ _ c.from_residual-in_err-fields-in-Build.ensures.1 (Answers-from _ _ _ c.in_err-fields-in-Build.ensures.answers)
    (λ f h. is-Build c.args.tables.now c.args.tree.now (scope_of c.args.scope.now) c.args.next.now c.in-Build.at c.in-Build.name c.in-Build.fields c.in-Build.is ∙ parts-fail (core.Build c.in-Build.at) _ _ c.in_ok-con-in-Build.con f c.in_ok-con-in-Build.ensures (sym (ap (λ us. in_turn (map (numbered_expression c.args.tables.now) us) (scope_of c.args.scope.now) c.args.next.now) c.as_slice-in-Build.ensures) ∙ h))

pub number_expression-returns-in_ok-fields-in-Build-clause-answers : goal.number_expression-returns-in_ok-fields-in-Build-clause-answers
number_expression-returns-in_ok-fields-in-Build-clause-answers t c =
    is-Build c.args.tables.now c.args.tree.now (scope_of c.args.scope.now) c.args.next.now c.in-Build.at c.in-Build.name c.in-Build.fields c.in-Build.is
    ∙ named-found (core.Build c.in-Build.at) _ _ c.in_ok-con-in-Build.con (record { what = c.in_ok-fields-in-Build.fields; next = c.number_expressions-in-Build.new.next }) c.in_ok-con-in-Build.ensures (sym (ap (λ us. in_turn (map (numbered_expression c.args.tables.now) us) (scope_of c.args.scope.now) c.args.next.now) c.as_slice-in-Build.ensures) ∙ c.in_ok-fields-in-Build.ensures.answers)

pub number_expression-returns-in_err-first-in-Binary-clause-answers : goal.number_expression-returns-in_err-first-in-Binary-clause-answers
number_expression-returns-in_err-first-in-Binary-clause-answers t c =
    From-fails _ _ _ _ _ c.from_residual-in_err-first-in-Binary.ensures.1 (Answers-from _ _ _ c.in_err-first-in-Binary.ensures.answers)
    (λ f h. is-Binary c.args.tables.now c.args.tree.now (scope_of c.args.scope.now) c.args.next.now c.in-Binary.at c.in-Binary.op c.in-Binary.a c.in-Binary.b c.in-Binary.is ∙ first-fails (core.Binary c.in-Binary.at c.in-Binary.op) _ (numbered_expression c.args.tables.now c.in-Binary.b (scope_of c.args.scope.now)) f h)

pub number_expression-returns-in_err-second-in-Binary-clause-answers : goal.number_expression-returns-in_err-second-in-Binary-clause-answers
number_expression-returns-in_err-second-in-Binary-clause-answers t c =
    From-fails _ _ _ _ _ c.from_residual-in_err-second-in-Binary.ensures.1 (Answers-from _ _ _ c.in_err-second-in-Binary.ensures.answers)
    (λ f h. is-Binary c.args.tables.now c.args.tree.now (scope_of c.args.scope.now) c.args.next.now c.in-Binary.at c.in-Binary.op c.in-Binary.a c.in-Binary.b c.in-Binary.is ∙ second-fails (core.Binary c.in-Binary.at c.in-Binary.op) _ (numbered_expression c.args.tables.now c.in-Binary.b (scope_of c.args.scope.now)) (record { what = c.in_ok-first-in-Binary.first; next = c.number_boxed.new.next }) f c.in_ok-first-in-Binary.ensures.answers
    (sym (ap (λ s. numbered_expression c.args.tables.now c.in-Binary.b (scope_of s) c.number_boxed.new.next) c.in_ok-first-in-Binary.ensures.scope) ∙ h))

pub number_expression-returns-in_ok-second-in-Binary-clause-answers : goal.number_expression-returns-in_ok-second-in-Binary-clause-answers
number_expression-returns-in_ok-second-in-Binary-clause-answers t c =
    is-Binary c.args.tables.now c.args.tree.now (scope_of c.args.scope.now) c.args.next.now c.in-Binary.at c.in-Binary.op c.in-Binary.a c.in-Binary.b c.in-Binary.is
    ∙ both-found (core.Binary c.in-Binary.at c.in-Binary.op) _ (numbered_expression c.args.tables.now c.in-Binary.b (scope_of c.args.scope.now)) (record { what = c.in_ok-first-in-Binary.first; next = c.number_boxed.new.next }) (record { what = c.in_ok-second-in-Binary.second; next = c.number_boxed-in-Binary.new.next }) c.in_ok-first-in-Binary.ensures.answers
    (sym (ap (λ s. numbered_expression c.args.tables.now c.in-Binary.b (scope_of s) c.number_boxed.new.next) c.in_ok-first-in-Binary.ensures.scope)
    ∙ c.in_ok-second-in-Binary.ensures.answers)

pub number_expression-returns-in_err-inner-in-To-clause-answers : goal.number_expression-returns-in_err-inner-in-To-clause-answers
number_expression-returns-in_err-inner-in-To-clause-answers t c =
    From-fails _ _ _ _ _ c.from_residual-in_err-inner-in-To.ensures.1 (Answers-from _ _ _ c.in_err-inner-in-To.ensures.answers)
    (λ f h. is-To c.args.tables.now c.args.tree.now (scope_of c.args.scope.now) c.args.next.now c.in-To.at c.in-To.bits c.in-To.a c.in-To.is ∙ alone-fails (core.To c.in-To.at c.in-To.bits) _ f h)

pub number_expression-returns-in_ok-inner-in-To-clause-answers : goal.number_expression-returns-in_ok-inner-in-To-clause-answers
number_expression-returns-in_ok-inner-in-To-clause-answers t c =
    is-To c.args.tables.now c.args.tree.now (scope_of c.args.scope.now) c.args.next.now c.in-To.at c.in-To.bits c.in-To.a c.in-To.is
    ∙ alone-found (core.To c.in-To.at c.in-To.bits) _ (record { what = c.in_ok-inner-in-To.inner; next = c.number_boxed-in-To.new.next }) c.in_ok-inner-in-To.ensures.answers

pub number_expression-returns-in_err-scrutinee-in-Match-clause-answers : goal.number_expression-returns-in_err-scrutinee-in-Match-clause-answers
number_expression-returns-in_err-scrutinee-in-Match-clause-answers t c =
    From-fails _ _ _ _ _ c.from_residual-in_err-scrutinee-in-Match.ensures.1 (Answers-from _ _ _ c.in_err-scrutinee-in-Match.ensures.answers)
    (λ f h. is-Match c.args.tables.now c.args.tree.now (scope_of c.args.scope.now) c.args.next.now c.in-Match.at c.in-Match.a c.in-Match.clauses c.in-Match.is ∙ first-fails (core.Match c.in-Match.at) _ (in_turn (map (numbered_clause c.args.tables.now) c.in-Match.clauses) (scope_of c.args.scope.now)) f h)

pub number_expression-returns-in_err-clauses-in-Match-clause-answers : goal.number_expression-returns-in_err-clauses-in-Match-clause-answers
number_expression-returns-in_err-clauses-in-Match-clause-answers t c =
    From-fails _ _ _ _ _ c.from_residual-in_err-clauses-in-Match.ensures.1 (Answers-from _ _ _ c.in_err-clauses-in-Match.ensures.answers)
    (λ f h. is-Match c.args.tables.now c.args.tree.now (scope_of c.args.scope.now) c.args.next.now c.in-Match.at c.in-Match.a c.in-Match.clauses c.in-Match.is ∙ second-fails (core.Match c.in-Match.at) _ (in_turn (map (numbered_clause c.args.tables.now) c.in-Match.clauses) (scope_of c.args.scope.now)) (record { what = c.in_ok-scrutinee-in-Match.scrutinee; next = c.number_boxed-in-Match.new.next }) f c.in_ok-scrutinee-in-Match.ensures.answers
    (sym (ap (λ s. in_turn (map (numbered_clause c.args.tables.now) c.in-Match.clauses) (scope_of s) c.number_boxed-in-Match.new.next) c.in_ok-scrutinee-in-Match.ensures.scope)
    ∙ sym (ap (λ us. in_turn (map (numbered_clause c.args.tables.now) us) (scope_of c.number_boxed-in-Match.new.scope) c.number_boxed-in-Match.new.next) c.as_slice-in-Match.ensures) ∙ h))

pub number_expression-returns-in_ok-clauses-in-Match-clause-answers : goal.number_expression-returns-in_ok-clauses-in-Match-clause-answers
number_expression-returns-in_ok-clauses-in-Match-clause-answers t c =
    is-Match c.args.tables.now c.args.tree.now (scope_of c.args.scope.now) c.args.next.now c.in-Match.at c.in-Match.a c.in-Match.clauses c.in-Match.is
    ∙ both-found (core.Match c.in-Match.at) _ (in_turn (map (numbered_clause c.args.tables.now) c.in-Match.clauses) (scope_of c.args.scope.now)) (record { what = c.in_ok-scrutinee-in-Match.scrutinee; next = c.number_boxed-in-Match.new.next }) (record { what = c.in_ok-clauses-in-Match.clauses; next = c.number_clauses.new.next }) c.in_ok-scrutinee-in-Match.ensures.answers
    (sym (ap (λ s. in_turn (map (numbered_clause c.args.tables.now) c.in-Match.clauses) (scope_of s) c.number_boxed-in-Match.new.next) c.in_ok-scrutinee-in-Match.ensures.scope)
    ∙ sym (ap (λ us. in_turn (map (numbered_clause c.args.tables.now) us) (scope_of c.number_boxed-in-Match.new.scope) c.number_boxed-in-Match.new.next) c.as_slice-in-Match.ensures) ∙ c.in_ok-clauses-in-Match.ensures.answers)
