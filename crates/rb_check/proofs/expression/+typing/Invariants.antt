use Rattle.std.proofs.Common.{◌≡◌, ◌+◌, ◌*◌, max, map, drop, length}
use denote.Param.Weighed.{most}
use Rattle.rb_core.specs.declared.expression.Expr.{size-Expr}
use Rattle.rb_core.specs.declared.expression.Clause.{size-Clause}
use Rattle.rb_core.specs.Typing.{each_argument, arguments, clauses_typing, clause_rule, rule_of}
use Rattle.rb_check.specs.inner.Answers.{wanted_types}
use Rattle.rb_check.proofs.expression.+typing.Given as goal

abbrev pub decreases-type_expression : goal.decreases-type_expression
decreases-type_expression l = 3 * size-Expr l.expr.now + 1

abbrev pub decreases-type_call : goal.decreases-type_call
decreases-type_call l = 3 * most size-Expr l.parts.now + 3

abbrev pub decreases-type_build : goal.decreases-type_build
decreases-type_build l = 3 * most size-Expr l.parts.now + 3

abbrev pub decreases-type_arguments : goal.decreases-type_arguments
decreases-type_arguments l = 3 * most size-Expr l.parts.now + 2

abbrev pub decreases-type_binary : goal.decreases-type_binary
decreases-type_binary l = 3 * max (size-Expr l.a.now) (size-Expr l.b.now) + 3

abbrev pub decreases-type_integer : goal.decreases-type_integer
decreases-type_integer l = 3 * size-Expr l.expr.now + 2

abbrev pub decreases-type_let : goal.decreases-type_let
decreases-type_let l = 3 * max (size-Expr l.a.now) (size-Expr l.b.now) + 2

abbrev pub decreases-type_match : goal.decreases-type_match
decreases-type_match l = 3 * max (size-Expr l.scrutinee.now) (most size-Clause l.cases.now) + 3

abbrev pub decreases-type_clauses : goal.decreases-type_clauses
decreases-type_clauses l = 3 * most size-Clause l.cases.now + 2

abbrev pub decreases-type_clause : goal.decreases-type_clause
decreases-type_clause l = 3 * size-Clause l.case.now + 1

-- what is left to type gives what all of it gives
abbrev pub invariant-type_arguments-loop-i : goal.invariant-type_arguments-loop-i
invariant-type_arguments-loop-i l = record {
  same_number : length l.parts ≡ length (wanted_types l.wanted);
  scope : l.scope ≡ l.fn.scope;
  gives : each_argument (map (rule_of l.program.types l.program.funs) (drop l.i l.parts)) (drop l.i (wanted_types l.wanted)) l.fn.scope
      ≡ arguments l.at (map (rule_of l.program.types l.program.funs) l.parts) (wanted_types l.wanted) l.fn.scope;
}

abbrev pub invariant-type_clauses-loop-case : goal.invariant-type_clauses-loop-case
invariant-type_clauses-loop-case l = record {
  scope : l.scope ≡ l.fn.scope;
  gives : clauses_typing (map (clause_rule l.program.types l.program.funs) (drop l.case-index l.cases)) l.scrutinee l.found l.fn.scope
      ≡ clauses_typing (map (clause_rule l.program.types l.program.funs) l.cases) l.scrutinee l.fn.wanted l.fn.scope;
}
