use Rattle.std.proofs.Common.{◌+◌, ◌*◌, map, take}
use Rattle.std.specs.List.{flat_map}
use denote.Param.Weighed.{most}
use Rattle.rb_core.specs.declared.expression.Expr.{size-Expr}
use Rattle.rb_core.specs.declared.expression.Clause.{size-Clause}
use Rattle.rb_compile.specs.inner.Used.{AreKept, MarksMore, variables_in, variables_of_clause}
use Rattle.rb_compile.proofs.used.+marking.Given as goal

abbrev pub invariant-mark_all-loop-expr : goal.invariant-mark_all-loop-expr
invariant-mark_all-loop-expr l = record {
  more : MarksMore l.fn.marks l.marks;
  kept : AreKept (flat_map (λ xs. xs) (map variables_in (take l.expr-index l.exprs))) l.marks;
}

abbrev pub invariant-mark_bodies-loop-clause : goal.invariant-mark_bodies-loop-clause
invariant-mark_bodies-loop-clause l = record {
  more : MarksMore l.fn.marks l.marks;
  kept : AreKept (flat_map (λ xs. xs) (map variables_of_clause (take l.clause-index l.clauses))) l.marks;
}

abbrev pub decreases-mark_expr : goal.decreases-mark_expr
decreases-mark_expr l = 2 * size-Expr l.expr.now

abbrev pub decreases-mark_all : goal.decreases-mark_all
decreases-mark_all l = 2 * most size-Expr l.exprs.now + 1

abbrev pub decreases-mark_bodies : goal.decreases-mark_bodies
decreases-mark_bodies l = 2 * most size-Clause l.clauses.now + 1
