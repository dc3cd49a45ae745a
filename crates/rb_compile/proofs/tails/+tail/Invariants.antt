use Rattle.std.proofs.Common.{◌≡◌, ℕ, ◌+◌, ◌*◌}
use denote.Param.Weighed.{most}
use Rattle.rb_core.specs.declared.expression.Expr.{size-Expr}
use Rattle.rb_core.specs.declared.expression.Clause.{size-Clause}
use Rattle.rb_compile.specs.Plans.{plan_of}
use Rattle.rb_compile.specs.inner.Tails.{EmitsTailArms, TailArmsAre}
use Rattle.rb_compile.proofs.tails.+tail.Given as goal

abbrev pub invariant-emit_tail_arms-loop-clause : goal.invariant-emit_tail_arms-loop-clause
invariant-emit_tail_arms-loop-clause l = record {
  emits : (fun : ℕ) → EmitsTailArms (plan_of l.agreed) fun l.clause-index l.clauses l.ty l.fn.locals l.subject l.fn.body l.body l.starts;
  are : TailArmsAre l.clause-index l.fn.body l.body l.starts;
  locals : l.locals ≡ l.fn.locals;
}

abbrev pub decreases-emit_tail : goal.decreases-emit_tail
decreases-emit_tail l = 3 * size-Expr l.expr.now + 1

abbrev pub decreases-emit_tail_let : goal.decreases-emit_tail_let
decreases-emit_tail_let l = 3 * size-Expr l.b.now + 3

abbrev pub decreases-emit_tail_match : goal.decreases-emit_tail_match
decreases-emit_tail_match l = 3 * most size-Clause l.clauses.now + 3

abbrev pub decreases-emit_tail_arms : goal.decreases-emit_tail_arms
decreases-emit_tail_arms l = 3 * most size-Clause l.clauses.now + 2

abbrev pub decreases-emit_tail_arm : goal.decreases-emit_tail_arm
decreases-emit_tail_arm l = 3 * size-Clause l.clause.now + 1
