use Rattle.std.proofs.Common.{◌≡◌, ◌≤◌, map, drop, ◌+◌, ◌*◌, max}
use denote.Param.Weighed.{most}
use Rattle.rb_core.specs.declared.expression.Expr.{size-Expr}
use Rattle.rb_core.specs.declared.expression.Clause.{size-Clause}
use Rattle.rb_core.specs.Meaning.{call_of, meaning_of, clause_meaning, all_of, parts_after, first_of}
use Rattle.rb_core.specs.inner.Evaluation.{part_types, parts_outcome}
use Rattle.rb_core.proofs.EvalMeasure.{call_weight}
use Rattle.rb_core.proofs.eval.+evaluation.Given as goal

abbrev pub decreases-eval_call : goal.decreases-eval_call
decreases-eval_call l = l.left * call_weight l.program.now

abbrev pub decreases-eval_expr : goal.decreases-eval_expr
decreases-eval_expr l = l.context.calls * call_weight l.context.program.now + (3 * size-Expr l.expr.now + 1)

abbrev pub decreases-eval_all : goal.decreases-eval_all
decreases-eval_all l = l.calls * call_weight l.program.now + (3 * goal.size-eval_all l + 2)

abbrev pub decreases-eval_whole : goal.decreases-eval_whole
decreases-eval_whole l = l.context.calls * call_weight l.context.program.now + (3 * goal.size-eval_whole l + 3)

abbrev pub decreases-eval_to : goal.decreases-eval_to
decreases-eval_to l = l.context.calls * call_weight l.context.program.now + (3 * goal.size-eval_to l + 2)

abbrev pub decreases-eval_clauses : goal.decreases-eval_clauses
decreases-eval_clauses l = l.context.calls * call_weight l.context.program.now + (3 * most size-Clause l.clauses.now + 2)

abbrev pub decreases-eval_let : goal.decreases-eval_let
decreases-eval_let l = l.context.calls * call_weight l.context.program.now + (3 * max (size-Expr l.a.now) (size-Expr l.b.now) + 2)

abbrev pub decreases-eval_binary : goal.decreases-eval_binary
decreases-eval_binary l = l.context.calls * call_weight l.context.program.now + (3 * max (size-Expr l.a.now) (size-Expr l.b.now) + 2)

abbrev pub decreases-eval_match : goal.decreases-eval_match
decreases-eval_match l = l.context.calls * call_weight l.context.program.now + (3 * max (size-Expr l.scrutinee.now) (most size-Clause l.clauses.now) + 3)

-- what is left to do gives what all of it gives
abbrev pub invariant-eval_all-loop-i : goal.invariant-eval_all-loop-i
invariant-eval_all-loop-i l = record {
  fewer : l.left ≤ l.calls;
  frame : l.frame ≡ l.initial.frame;
  gives : parts_after l.initial.log (parts_outcome l.program l.initial.frame l.whole l.parts l.calls)
      ≡ parts_after l.log (all_of (map (meaning_of l.program (call_of l.program) l.initial.frame.fun) (drop l.i l.parts)) (drop l.i (part_types l.program l.whole)) l.initial.frame.scope l.values l.left l.initial.frame.values);
}

abbrev pub invariant-eval_clauses-loop-clause : goal.invariant-eval_clauses-loop-clause
invariant-eval_clauses-loop-clause l = record {
  frame : l.frame ≡ l.initial.frame;
  log : l.log ≡ l.initial.log;
  gives : first_of l.context.program.now.types l.ty (map (clause_meaning l.context.program.now (call_of l.context.program.now) l.initial.frame.fun) l.clauses) l.initial.wanted l.others l.initial.frame.scope l.value l.context.calls l.initial.frame.values
      ≡ first_of l.context.program.now.types l.ty (map (clause_meaning l.context.program.now (call_of l.context.program.now) l.initial.frame.fun) (drop l.clause-index l.clauses)) l.wanted l.others l.initial.frame.scope l.value l.context.calls l.initial.frame.values;
}
