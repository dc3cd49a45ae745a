use Rattle.std.proofs.Common.{◌≡◌, ◌+◌, ◌*◌, max, ℕ, List, reverse}
use denote.Param.Weighed.{most}
use Rattle.rb_syntax.specs.declared.tree.ExprTree.{size-ExprTree}
use Rattle.rb_syntax.specs.declared.tree.ClauseTree.{size-ClauseTree}
use Rattle.rb_syntax.specs.Written.{Written, tokens_in}
use Rattle.rb_syntax.specs.Spelling.{expr_written, clause_written}
use Rattle.rb_syntax.proofs.ListLemmas.{parts_from}
use Rattle.rb_syntax.proofs.spell.expression.+expression.Given as goal

abbrev pub decreases-put_expr : goal.decreases-put_expr
decreases-put_expr l = 4 * size-ExprTree l.expr.now + 1

abbrev pub decreases-put_binary : goal.decreases-put_binary
decreases-put_binary l = 4 * max (size-ExprTree l.a.now) (size-ExprTree l.b.now) + 2

abbrev pub decreases-put_conversion : goal.decreases-put_conversion
decreases-put_conversion l = 4 * size-ExprTree l.a.now + 2

abbrev pub decreases-put_let : goal.decreases-put_let
decreases-put_let l = 4 * max (size-ExprTree l.a.now) (size-ExprTree l.b.now) + 2

abbrev pub decreases-put_args : goal.decreases-put_args
decreases-put_args l = 4 * most size-ExprTree l.args.now + 3

abbrev pub decreases-put_clauses : goal.decreases-put_clauses
decreases-put_clauses l = 4 * most size-ClauseTree l.clauses.now + 3

-- the arguments from i on are written
abbrev pub invariant-put_args-loop-i : goal.invariant-put_args-loop-i
invariant-put_args-loop-i l = (level : ℕ) (rest : List Written) → reverse l.initial.out.items ≡ tokens_in rest
    → reverse l.out.items ≡ tokens_in (parts_from expr_written level l.args l.i rest)

-- the clauses from i on are written
abbrev pub invariant-put_clauses-loop-i : goal.invariant-put_clauses-loop-i
invariant-put_clauses-loop-i l = (level : ℕ) (rest : List Written) → reverse l.initial.out.items ≡ tokens_in rest
    → reverse l.out.items ≡ tokens_in (parts_from clause_written level l.clauses l.i rest)
