use Rattle.std.proofs.Common.{◌≡◌, ◌+◌, ◌*◌, max, map, drop}
use denote.Param.Weighed.{most}
use Rattle.rb_syntax.specs.declared.tree.ExprTree.{size-ExprTree}
use Rattle.rb_syntax.specs.declared.tree.ClauseTree.{size-ClauseTree}
use Rattle.rb_names.specs.Numbering.{in_turn, numbered_expression}
use Rattle.rb_names.specs.inner.Parts.{numbered_clause}
use Rattle.rb_names.specs.inner.Joining.{behind_in_turn}
use Rattle.rb_names.specs.inner.Frames.{scope_of}
use Rattle.rb_names.proofs.expression.+expression.Given as goal

abbrev pub decreases-number_expression : goal.decreases-number_expression
decreases-number_expression l = 4 * size-ExprTree l.tree.now + 1

abbrev pub decreases-number_let : goal.decreases-number_let
decreases-number_let l = 4 * max (size-ExprTree l.a.now) (size-ExprTree l.b.now) + 4

abbrev pub decreases-number_boxed : goal.decreases-number_boxed
decreases-number_boxed l = 4 * size-ExprTree l.tree.now + 2

abbrev pub decreases-number_expressions : goal.decreases-number_expressions
decreases-number_expressions l = 4 * most size-ExprTree l.trees.now + 2

abbrev pub decreases-number_clauses : goal.decreases-number_clauses
decreases-number_clauses l = 4 * most size-ClauseTree l.trees.now + 3

abbrev pub decreases-number_clause : goal.decreases-number_clause
decreases-number_clause l = 4 * size-ClauseTree l.tree.now + 2

-- what is left gives what all of it gives
abbrev pub invariant-number_expressions-loop-tree : goal.invariant-number_expressions-loop-tree
invariant-number_expressions-loop-tree l = record {
  scope : l.scope ≡ l.fn.scope;
  gives : behind_in_turn l.exprs (in_turn (map (numbered_expression l.tables) (drop l.tree-index l.trees)) (scope_of l.fn.scope) l.next)
      ≡ in_turn (map (numbered_expression l.tables) l.trees) (scope_of l.fn.scope) l.fn.next;
}

abbrev pub invariant-number_clauses-loop-tree : goal.invariant-number_clauses-loop-tree
invariant-number_clauses-loop-tree l = record {
  scope : l.scope ≡ l.fn.scope;
  gives : behind_in_turn l.clauses (in_turn (map (numbered_clause l.tables) (drop l.tree-index l.trees)) (scope_of l.fn.scope) l.next)
      ≡ in_turn (map (numbered_clause l.tables) l.trees) (scope_of l.fn.scope) l.fn.next;
}
