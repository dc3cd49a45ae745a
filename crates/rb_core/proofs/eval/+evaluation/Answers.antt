use Rattle.std.proofs.Common.{◌≡◌, ◌≤◌, [], ◌∷◌, ◌+◌, ◌-◌, ◌*◌, ◌<◌, max, drop, Some, None, arith, le_trans, ◌∙◌, sym}
use denote.Param.Weighed.{most}
use Rattle.rb_core.specs.declared.expression.Expr.{size-Expr}
use Rattle.rb_core.specs.declared.expression.Clause.{size-Clause}
use Rattle.std.proofs.lemmas.Grind.{common_steps}
use Rattle.rb_core.specs.declared.outcome.Event.TheVariants.{Matched}
use Rattle.rb_core.specs.Meaning.{call_of}
use Rattle.rb_core.specs.inner.Evaluation.{part_types}
use Rattle.rb_core.proofs.EvalMeasure.{body_falls, body_in_clauses, call_weight, less_left}
use Rattle.rb_core.proofs.EvalSteps.{first_of-hit, first_of-miss, all_of-next, parts-next, parts-cut, parts-done}
use Rattle.rb_core.proofs.GivesLemmas.{Gives-spent, Gives-done-if, Gives-cut, Gives-all-if, Gives-here, Gives-after-if, Gives-none, Gives-number}
use Rattle.rb_core.proofs.MeaningForms.{meaning-Num, meaning-Var, meaning-Call, meaning-Build, meaning-Binary, meaning-To, meaning-Let, meaning-Match}
use Rattle.rb_core.proofs.CallLaws.{call_of-runs}
use Rattle.rb_core.proofs.CallsLeft.{fewer-gives, parts-fewer-gives, fewer-done}
use Rattle.rb_core.proofs.eval.+evaluation.Goals as goal

-- the forms
pub eval_expr-returns-in-Num-clause-gives : goal.eval_expr-returns-in-Num-clause-gives
eval_expr-returns-in-Num-clause-gives t c = rw (c.in-Num.is, meaning-Num) (Gives-here _ _ _)

pub eval_expr-returns-in_ok-value-in-Var-clause-gives : goal.eval_expr-returns-in_ok-value-in-Var-clause-gives
eval_expr-returns-in_ok-value-in-Var-clause-gives t c = rw (c.in-Var.is, meaning-Var, ← c.as_slice.ensures, ← c.in_ok-value-in-Var.ensures) (Gives-here _ _ _)

pub eval_expr-returns-in-Call-clause-gives : goal.eval_expr-returns-in-Call-clause-gives
eval_expr-returns-in-Call-clause-gives t c = rw (c.in-Call.is, meaning-Call) (simp (← c.as_slice-in-Call.ensures) c.eval_whole.ensures.gives)

pub eval_expr-returns-in-Build-clause-gives : goal.eval_expr-returns-in-Build-clause-gives
eval_expr-returns-in-Build-clause-gives t c = rw (c.in-Build.is, meaning-Build) (simp (← c.as_slice-in-Build.ensures) c.eval_whole-in-Build.ensures.gives)

pub eval_expr-returns-in-Binary-clause-gives : goal.eval_expr-returns-in-Binary-clause-gives
eval_expr-returns-in-Binary-clause-gives t c = rw c.in-Binary.is (simp (← c.get.ensures, ← c.get-in-Binary.ensures) (c.eval_binary.ensures.gives _))

pub eval_expr-returns-in-To-clause-gives : goal.eval_expr-returns-in-To-clause-gives
eval_expr-returns-in-To-clause-gives t c = rw c.in-To.is (simp (← c.get-in-To.ensures) (c.eval_to.ensures.gives _))

pub eval_expr-returns-in-Let-clause-gives : goal.eval_expr-returns-in-Let-clause-gives
eval_expr-returns-in-Let-clause-gives t c = rw c.in-Let.is (simp (← c.get-in-Let.ensures, ← c.get-in-Let-2.ensures) (c.eval_let.ensures.gives _))

pub eval_expr-returns-in-Match-clause-gives : goal.eval_expr-returns-in-Match-clause-gives
eval_expr-returns-in-Match-clause-gives t c = rw c.in-Match.is (simp (← c.get-in-Match.ensures, ← c.as_slice-clauses.ensures) c.eval_match.ensures.gives)

-- a call
pub eval_call-returns-in_default : goal.eval_call-returns-in_default
eval_call-returns-in_default t c =
    let some_left : 0 < c.args.left = omega arith in
    rw (call_of-runs _ _ _ _ some_left, ← c.in_default.ensures.value) (Gives-here _ _ _)

pub eval_call-eval_expr-requires : goal.eval_call-eval_expr-requires
eval_call-eval_expr-requires t c = let some_left : 0 < c.args.left = omega arith in
    let falls = body_falls c.args.program.now c.args.fun c.in-Some.callee.now c.args.left c.in-Some.ensures.value some_left in
    (omega (arith, falls, c.decreases), tt)

pub eval_call-returns : goal.eval_call-returns
eval_call-returns t c =
    let some_left : 0 < c.args.left = omega arith in
    rw (call_of-runs _ _ _ _ some_left, ← c.in-Some.ensures.value)
    (rw (c.in_ok-frame.ensures, c.as_slice.ensures) at c.eval_expr.ensures.gives)

-- a whole
pub eval_whole-returns-in-Cut-clause-gives : goal.eval_whole-returns-in-Cut-clause-gives
eval_whole-returns-in-Cut-clause-gives t c = Gives-cut _ _ _ _ (rw c.in-Cut.is at c.in_ok-eval_all.ensures.gives)

pub eval_whole-eval_call-requires : goal.eval_whole-eval_call-requires
eval_whole-eval_call-requires t c =
    let fewer = rw c.in-AllDone.is at (parts-fewer-gives c.args.context.program.now c.args.frame.now.fun c.args.frame.now.scope c.args.context.calls c.args.frame.now.values c.args.log.now c.eval_all.new.log c.args.parts.now (part_types c.args.context.program.now c.args.whole) c.in_ok-eval_all.field-0 c.in_ok-eval_all.ensures.gives) in
    let less = less_left (call_weight c.args.context.program.now) c.in-AllDone.left c.args.context.calls 0 1 fewer (omega arith) in
    (omega (arith, less, c.decreases), tt)

pub eval_whole-returns-in-Call-clause-gives : goal.eval_whole-returns-in-Call-clause-gives
eval_whole-returns-in-Call-clause-gives t c =
    Gives-all-if _ _ _ _ _ _ _ _ (rw c.in-AllDone.is at c.in_ok-eval_all.ensures.gives)
    (rw c.in-Call.is (simp (← c.as_slice.ensures) c.eval_call.ensures))

pub eval_whole-returns-in-Build-clause-gives : goal.eval_whole-returns-in-Build-clause-gives
eval_whole-returns-in-Build-clause-gives t c =
    Gives-all-if _ _ _ _ _ _ _ _ (rw c.in-AllDone.is at c.in_ok-eval_all.ensures.gives)
    (rw c.in-Build.is c.build.ensures)

-- one operand
pub eval_to-returns-in_default-clause-gives : goal.eval_to-returns-in_default-clause-gives
eval_to-returns-in_default-clause-gives t c = λ at. rw meaning-To
    (Gives-none _ _ _ _ _ c.in_default.ensures c.in_ok-eval_expr.ensures.gives)

pub eval_to-returns-clause-gives : goal.eval_to-returns-clause-gives
eval_to-returns-clause-gives t c = λ at. rw (meaning-To, c.low_bits.ensures)
    (Gives-number _ _ _ _ _ _ _ _ _ c.in-Some.ensures c.in_ok-eval_expr.ensures.gives (λ v number. rw number (Gives-here _ _ _)))

-- two operands
pub eval_binary-returns-in_default-clause-gives : goal.eval_binary-returns-in_default-clause-gives
eval_binary-returns-in_default-clause-gives t c = λ at. rw meaning-Binary
    (Gives-none _ _ _ _ _ c.in_default.ensures (rw (c.in_ok-ty.ensures.scope, c.wanted_of_operand.ensures) at c.in_ok-eval_expr.ensures.gives))

pub eval_binary-eval_expr-requires-2 : goal.eval_binary-eval_expr-requires-2
eval_binary-eval_expr-requires-2 t c =
    let fewer = fewer-gives c.args.context.program.now c.args.frame.now.fun c.infer_operands.new.scope c.args.context.calls c.args.frame.now.values c.args.log.now c.eval_expr.new.log c.args.a.now c.wanted_of_operand.result c.in_ok-eval_expr.field-0 c.in_ok-eval_expr.ensures.gives in
    let le = fewer-done c.args.context.calls c.in-Some.first c.in-Some.left c.in_ok-eval_expr.field-0 c.in-Some.ensures fewer in
    let less = less_left (call_weight c.args.context.program.now) c.in-Some.left c.args.context.calls (3 * size-Expr c.args.b.now + 1) (3 * max (size-Expr c.args.a.now) (size-Expr c.args.b.now) + 2) le (omega arith) in
    (omega (arith, less, c.decreases), tt)

pub eval_binary-returns-in_default-done_number-clause-gives : goal.eval_binary-returns-in_default-done_number-clause-gives
eval_binary-returns-in_default-done_number-clause-gives t c = λ at. rw meaning-Binary
    (Gives-number _ _ _ _ _ _ _ _ _ c.in-Some.ensures (rw (c.in_ok-ty.ensures.scope, c.wanted_of_operand.ensures) at c.in_ok-eval_expr.ensures.gives) (λ v first.
    Gives-none _ _ _ _ _ c.in_default-done_number.ensures (rw (c.in_ok-eval_expr.ensures.frame, c.in_ok-ty.ensures.scope, c.in_ok-ty.ensures.ty) at c.in_ok-eval_expr-2.ensures.gives)))

pub eval_binary-returns-clause-gives : goal.eval_binary-returns-clause-gives
eval_binary-returns-clause-gives t c = λ at. rw (meaning-Binary, c.apply-n.ensures, c.width.ensures.width, c.in_ok-ty.ensures.ty)
    (Gives-number _ _ _ _ _ _ _ _ _ c.in-Some.ensures (rw (c.in_ok-ty.ensures.scope, c.wanted_of_operand.ensures) at c.in_ok-eval_expr.ensures.gives) (λ v first.
    Gives-number _ _ _ _ _ _ _ _ _ c.in-Some-done_number.ensures (rw (c.in_ok-eval_expr.ensures.frame, c.in_ok-ty.ensures.scope, c.in_ok-ty.ensures.ty) at c.in_ok-eval_expr-2.ensures.gives) (λ w second.
    rw (first, second) (Gives-here _ _ _))))

-- let
pub eval_let-returns-in-Spent-clause-gives : goal.eval_let-returns-in-Spent-clause-gives
eval_let-returns-in-Spent-clause-gives t c = λ at. rw meaning-Let
    (Gives-spent _ _ _ _ (rw c.in-Spent.is at c.in_ok-eval_expr.ensures.gives))

pub eval_let-eval_expr-end-requires : goal.eval_let-eval_expr-end-requires
eval_let-eval_expr-end-requires t c =
    let fewer = rw c.in-Done.is at (fewer-gives c.args.context.program.now c.args.frame.now.fun c.args.frame.now.scope c.args.context.calls c.args.frame.now.values c.args.log.now c.eval_expr.new.log c.args.a.now (Some c.args.binder.ty) c.in_ok-eval_expr.field-0 c.in_ok-eval_expr.ensures.gives) in
    let less = less_left (call_weight c.args.context.program.now) c.in-Done.left c.args.context.calls (3 * size-Expr c.args.b.now + 1) (3 * max (size-Expr c.args.a.now) (size-Expr c.args.b.now) + 2) fewer (omega arith) in
    (omega (arith, less, c.decreases), tt)

pub eval_let-returns-in_ok-push-in-Done-clause-gives : goal.eval_let-returns-in_ok-push-in-Done-clause-gives
eval_let-returns-in_ok-push-in-Done-clause-gives t c = λ at. rw meaning-Let
    (Gives-done-if _ _ _ _ _ _ _ _ (rw c.in-Done.is at c.in_ok-eval_expr.ensures.gives)
    (rw (c.in_ok-push-in-Done.ensures.fun, c.in_ok-push-in-Done.ensures.scope, c.in_ok-push-in-Done.ensures.values, c.in_ok-eval_expr.ensures.frame) at c.eval_expr-end.ensures.gives))

-- match
pub eval_match-returns-in-Spent-clause-gives : goal.eval_match-returns-in-Spent-clause-gives
eval_match-returns-in-Spent-clause-gives t c = rw meaning-Match
    (Gives-spent _ _ _ _ (rw (c.in-Spent.is, c.in_ok-others.ensures.scope, c.in_ok-ty.ensures.scope) at c.in_ok-eval_expr.ensures.gives))

pub eval_match-eval_clauses-requires : goal.eval_match-eval_clauses-requires
eval_match-eval_clauses-requires t c =
    let fewer = rw c.in-Done.is at (fewer-gives c.args.context.program.now c.args.frame.now.fun c.infer_match.new.scope c.args.context.calls c.args.frame.now.values c.args.log.now c.eval_expr.new.log c.args.scrutinee.now None c.in_ok-eval_expr.field-0 c.in_ok-eval_expr.ensures.gives) in
    let less = less_left (call_weight c.args.context.program.now) c.in-Done.left c.args.context.calls (3 * most size-Clause c.args.clauses.now + 2) (3 * max (size-Expr c.args.scrutinee.now) (most size-Clause c.args.clauses.now) + 3) fewer (omega arith) in
    (omega (arith, less, c.decreases), tt)

pub eval_match-returns-in_ok-push-in-Done-clause-gives : goal.eval_match-returns-in_ok-push-in-Done-clause-gives
eval_match-returns-in_ok-push-in-Done-clause-gives t c = rw meaning-Match
    (Gives-done-if _ _ _ _ _ _ _ _ (rw (c.in-Done.is, c.in_ok-others.ensures.scope, c.in_ok-ty.ensures.scope) at c.in_ok-eval_expr.ensures.gives)
    (Gives-after-if _ _ (Matched c.args.frame.now.fun c.args.at ∷ []) c.eval_expr.new.log _ _ (rw c.in_ok-eval_expr.ensures.frame at c.in_ok-push-in-Done.ensures.ok)
    (rw (c.in_ok-eval_expr.ensures.frame, c.in_ok-others.ensures.ty, c.in_ok-others.ensures.scope, c.in_ok-ty.ensures.ty, c.in_ok-ty.ensures.scope) at c.eval_clauses.ensures.gives)))

-- clauses
pub eval_clauses-returns-then-matches-clause-gives : goal.eval_clauses-returns-then-matches-clause-gives
eval_clauses-returns-then-matches-clause-gives t c =
    let hit = first_of-hit c.args.context.program.now (call_of c.args.context.program.now) c.args.frame.now.fun c.args.frame.now.scope c.args.context.calls c.args.frame.now.values
    c.args.context.program.now.types c.args.ty c.loop-clause.wanted c.args.others c.args.clauses.now c.loop-clause.clause-index
    c.clause-item.result c.args.value.now c.loop-clause-test.true c.clause-item.is (sym c.matches.ensures ∙ c.if-matches.true) in
    rw (← c.loop-clause.invariant.log, c.loop-clause.invariant.gives, hit)
    (rw (c.in_ok-bind.ensures.fun, c.in_ok-bind.ensures.scope, c.in_ok-bind.ensures.values, c.loop-clause.invariant.frame, c.as_slice.ensures) at c.eval_expr-end.ensures.gives)

pub eval_clauses-loop-clause-preserved : goal.eval_clauses-loop-clause-preserved
eval_clauses-loop-clause-preserved t c = record {
  frame = c.loop-clause.invariant.frame;
  log = c.loop-clause.invariant.log;
  gives = c.loop-clause.invariant.gives
      ∙ first_of-miss c.args.context.program.now (call_of c.args.context.program.now) c.args.frame.now.fun c.args.frame.now.scope c.args.context.calls c.args.frame.now.values
      c.args.context.program.now.types c.args.ty c.loop-clause.wanted c.args.others c.args.clauses.now c.loop-clause.clause-index
      c.clause-item.result c.args.value.now c.loop-clause-test.true c.clause-item.is (sym c.matches.ensures ∙ c.if-matches.false);
}

pub eval_clauses-eval_expr-end-requires : goal.eval_clauses-eval_expr-end-requires
eval_clauses-eval_expr-end-requires t c = (omega (arith, c.decreases, body_in_clauses c.args.clauses.now c.loop-clause.clause-index c.clause-item.result c.loop-clause-test.true c.clause-item.is), tt)

pub eval_clauses-returns-clause-gives : goal.eval_clauses-returns-clause-gives
eval_clauses-returns-clause-gives t c = let none : drop c.loop-clause.clause-index c.args.clauses.now ≡ [] = grind (arith, common_steps) in
    rw (← c.loop-clause.invariant.log, c.loop-clause.invariant.gives, none) (Gives-here _ _ _)

-- parts
pub eval_all-returns-in-Spent-clause-gives : goal.eval_all-returns-in-Spent-clause-gives
eval_all-returns-in-Spent-clause-gives t c =
    parts-cut _ _ _ _ _ _ _ c.loop-i.invariant.gives
    (all_of-next c.args.program.now (call_of c.args.program.now) c.args.frame.now.fun c.args.frame.now.scope c.loop-i.left c.args.frame.now.values c.args.parts.now (part_types c.args.program.now c.args.whole) c.loop-i.i c.index-parts-i.result c.wanted_of_part.result c.loop-i.values c.loop-i-test.true c.index-parts-i.is c.wanted_of_part.ensures)
    (rw (c.in-Spent.is, c.loop-i.invariant.frame) at c.in_ok-eval_expr.ensures.gives)

pub eval_all-loop-i-preserved : goal.eval_all-loop-i-preserved
eval_all-loop-i-preserved t c =
    let given = rw (c.in-Done.is, c.loop-i.invariant.frame) at c.in_ok-eval_expr.ensures.gives in
    record {
      fewer = le_trans (fewer-gives c.args.program.now c.args.frame.now.fun c.args.frame.now.scope c.loop-i.left c.args.frame.now.values c.loop-i.log c.eval_expr.new.log c.index-parts-i.result c.wanted_of_part.result _ given) c.loop-i.invariant.fewer;
      frame = c.in_ok-eval_expr.ensures.frame ∙ c.loop-i.invariant.frame;
      gives = rw c.in_ok-push-in-Done.ensures.ok
          (parts-next _ _ _ _ c.args.log.now c.loop-i.log c.eval_expr.new.log c.loop-i.invariant.gives
          (all_of-next c.args.program.now (call_of c.args.program.now) c.args.frame.now.fun c.args.frame.now.scope c.loop-i.left c.args.frame.now.values c.args.parts.now (part_types c.args.program.now c.args.whole) c.loop-i.i c.index-parts-i.result c.wanted_of_part.result c.loop-i.values c.loop-i-test.true c.index-parts-i.is c.wanted_of_part.ensures)
          _ _ given);
    }

pub eval_all-returns-clause-gives : goal.eval_all-returns-clause-gives
eval_all-returns-clause-gives t c = let none : drop c.loop-i.i c.args.parts.now ≡ [] = grind (arith, common_steps) in
    parts-done _ _ _ _ _ (rw none at c.loop-i.invariant.gives)
