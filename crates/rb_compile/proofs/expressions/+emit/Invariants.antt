use Rattle.std.proofs.Common.{◌≡◌, length, ℕ, ◌+◌, ◌*◌, max}
use denote.Param.Weighed.{most}
use Rattle.rb_core.specs.declared.expression.Expr.{size-Expr}
use Rattle.rb_core.specs.declared.expression.Clause.{size-Clause}
use Rattle.rb_target.specs.Growth.{Grows}
use Rattle.rb_fragment.specs.Arms.{ArmsAre}
use Rattle.rb_compile.specs.Plans.{plan_of}
use Rattle.rb_compile.specs.inner.Forms.{EmitsFirst}
use Rattle.rb_compile.specs.inner.Arms.{EmitsArms, Reaches}
use Rattle.rb_compile.proofs.expressions.+emit.Given as goal

abbrev pub invariant-emit_all-loop-i : goal.invariant-emit_all-loop-i
invariant-emit_all-loop-i l = record {
  grows : Grows l.fn.body.code l.body.code;
  emits : (fun : ℕ) → EmitsFirst (plan_of l.agreed) fun l.i l.exprs l.tys l.fn.locals l.fn.body l.body l.all;
  count : length l.all ≡ l.i;
  locals : l.locals ≡ l.fn.locals;
}

abbrev pub invariant-emit_arms-loop-clause : goal.invariant-emit_arms-loop-clause
invariant-emit_arms-loop-clause l = record {
  grows : Grows l.fn.body.code l.body.code;
  emits : (fun : ℕ) → EmitsArms (plan_of l.agreed) fun l.clause-index l.clauses l.wanted l.fn.locals l.subject l.fn.body l.body l.into l.joins l.starts;
  are : ArmsAre l.clause-index l.fn.body l.body l.joins l.starts;
  reaches : Reaches l.clause-index l.into;
  locals : l.locals ≡ l.fn.locals;
}

abbrev pub decreases-emit_expr : goal.decreases-emit_expr
decreases-emit_expr l = 3 * size-Expr l.expr.now + 1

abbrev pub decreases-emit_binary : goal.decreases-emit_binary
decreases-emit_binary l = 3 * max (size-Expr l.a.now) (size-Expr l.b.now) + 3

abbrev pub decreases-emit_let : goal.decreases-emit_let
decreases-emit_let l = 3 * max (size-Expr l.a.now) (size-Expr l.b.now) + 3

abbrev pub decreases-emit_call : goal.decreases-emit_call
decreases-emit_call l = 3 * most size-Expr l.args.now + 3

abbrev pub decreases-emit_construction : goal.decreases-emit_construction
decreases-emit_construction l = 3 * most size-Expr l.args.now + 3

abbrev pub decreases-emit_all : goal.decreases-emit_all
decreases-emit_all l = 3 * most size-Expr l.exprs.now + 2

abbrev pub decreases-emit_choice : goal.decreases-emit_choice
decreases-emit_choice l = 3 * max (size-Expr l.scrutinee.now) (most size-Clause l.clauses.now) + 3

abbrev pub decreases-emit_arms : goal.decreases-emit_arms
decreases-emit_arms l = 3 * most size-Clause l.clauses.now + 2

abbrev pub decreases-emit_arm : goal.decreases-emit_arm
decreases-emit_arm l = 3 * size-Clause l.clause.now + 1
