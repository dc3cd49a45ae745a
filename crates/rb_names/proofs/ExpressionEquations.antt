-- Expressions, form by form.
use Rattle.std.proofs.Common.{◌≡◌, ℕ, List, map, ap}
use Rattle.rb_core.specs.declared.expression.Op.{Op}
use Rattle.rb_core.specs.declared.expression.Expr.{Expr}
use Rattle.rb_core.specs.declared.expression.Clause.{Clause}
use Rattle.rb_syntax.specs.declared.tree.NameTree.{NameTree}
use Rattle.rb_syntax.specs.declared.tree.TyTree.{TyTree}
use Rattle.rb_syntax.specs.declared.tree.PatTree.{PatTree}
use Rattle.rb_syntax.specs.declared.tree.ClauseTree.{ClauseTree}
use Rattle.rb_syntax.specs.declared.tree.ExprTree.{ExprTree}
use Rattle.rb_syntax.specs.declared.tree.ExprTree as X
use Rattle.rb_syntax.specs.declared.tree.ExprTree.TheOpen as expr
use Rattle.rb_syntax.specs.declared.tree.ExprTree.TheFolds.{fold-roll-ExprTree, fold_out-ClauseTree}
use Rattle.rb_names.specs.declared.tables.Tables.{Tables}
use Rattle.rb_names.specs.Scopes.{Scope}
use Rattle.rb_names.proofs.PatternEquations.{names-Wild, names-Var, names-Num, names-Con, pattern-Wild, pattern-Var, pattern-Num, pattern-Con}
use Rattle.rb_names.specs.Numbering.{Numbering, expr_step, clause_step, numbered_expression}
use Rattle.rb_names.specs.inner.Parts.{numbered_clause}

module _ (t : Tables) where
  pub clause-is : (c : ClauseTree) → numbered_clause t c ≡ clause_step t (record { pat = c.pat; body = numbered_expression t c.body })
  clause-is c = fold_out-ClauseTree (Numbering Expr) (Numbering Clause) (expr_step t) (clause_step t) c

  pub clause-of : (p : PatTree) (e : ExprTree) (scope : Scope) (next : ℕ)
      → numbered_clause t (record { pat = p; body = e }) scope next ≡ clause_step t (record { pat = p; body = numbered_expression t e }) scope next
  clause-of p e scope next = ap (λ (n : Numbering Clause). n scope next) (clause-is (record { pat = p; body = e }))

  pub expr-Num : (at n : ℕ) (scope : Scope) (next : ℕ) → numbered_expression t (X.Num at n) scope next ≡ expr_step t (expr.Num at n) scope next
  unfolding X.roll-ExprTree denote.Hole.Carrier.roll
  expr-Num at n scope next = ap (λ (n : Numbering Expr). n scope next) (fold-roll-ExprTree (Numbering Expr) (Numbering Clause) (expr_step t) (clause_step t) (expr.Num at n))

  pub expr-Var : (at : ℕ) (name : NameTree) (scope : Scope) (next : ℕ) → numbered_expression t (X.Var at name) scope next ≡ expr_step t (expr.Var at name) scope next
  unfolding X.roll-ExprTree denote.Hole.Carrier.roll
  expr-Var at name scope next = ap (λ (n : Numbering Expr). n scope next) (fold-roll-ExprTree (Numbering Expr) (Numbering Clause) (expr_step t) (clause_step t) (expr.Var at name))

  pub expr-Call : (at : ℕ) (name : NameTree) (es : List ExprTree) (scope : Scope) (next : ℕ) → numbered_expression t (X.Call at name es) scope next ≡ expr_step t (expr.Call at name (map (numbered_expression t) es)) scope next
  unfolding X.roll-ExprTree denote.Hole.Carrier.roll
  expr-Call at name es scope next = ap (λ (n : Numbering Expr). n scope next) (fold-roll-ExprTree (Numbering Expr) (Numbering Clause) (expr_step t) (clause_step t) (expr.Call at name es))

  pub expr-Build : (at : ℕ) (name : NameTree) (es : List ExprTree) (scope : Scope) (next : ℕ) → numbered_expression t (X.Build at name es) scope next ≡ expr_step t (expr.Build at name (map (numbered_expression t) es)) scope next
  unfolding X.roll-ExprTree denote.Hole.Carrier.roll
  expr-Build at name es scope next = ap (λ (n : Numbering Expr). n scope next) (fold-roll-ExprTree (Numbering Expr) (Numbering Clause) (expr_step t) (clause_step t) (expr.Build at name es))

  pub expr-Binary : (at : ℕ) (op : Op) (a b : ExprTree) (scope : Scope) (next : ℕ) → numbered_expression t (X.Binary at op a b) scope next ≡ expr_step t (expr.Binary at op (numbered_expression t a) (numbered_expression t b)) scope next
  unfolding X.roll-ExprTree denote.Hole.Carrier.roll
  expr-Binary at op a b scope next = ap (λ (n : Numbering Expr). n scope next) (fold-roll-ExprTree (Numbering Expr) (Numbering Clause) (expr_step t) (clause_step t) (expr.Binary at op a b))

  pub expr-To : (at bits : ℕ) (a : ExprTree) (scope : Scope) (next : ℕ) → numbered_expression t (X.To at bits a) scope next ≡ expr_step t (expr.To at bits (numbered_expression t a)) scope next
  unfolding X.roll-ExprTree denote.Hole.Carrier.roll
  expr-To at bits a scope next = ap (λ (n : Numbering Expr). n scope next) (fold-roll-ExprTree (Numbering Expr) (Numbering Clause) (expr_step t) (clause_step t) (expr.To at bits a))

  pub expr-Let : (at : ℕ) (name : NameTree) (ty : TyTree) (a b : ExprTree) (scope : Scope) (next : ℕ) → numbered_expression t (X.Let at name ty a b) scope next ≡ expr_step t (expr.Let at name ty (numbered_expression t a) (numbered_expression t b)) scope next
  unfolding X.roll-ExprTree denote.Hole.Carrier.roll
  expr-Let at name ty a b scope next = ap (λ (n : Numbering Expr). n scope next) (fold-roll-ExprTree (Numbering Expr) (Numbering Clause) (expr_step t) (clause_step t) (expr.Let at name ty a b))

  pub expr-Match : (at : ℕ) (e : ExprTree) (cs : List ClauseTree) (scope : Scope) (next : ℕ) → numbered_expression t (X.Match at e cs) scope next ≡ expr_step t (expr.Match at (numbered_expression t e) (map (numbered_clause t) cs)) scope next
  unfolding X.roll-ExprTree denote.Hole.Carrier.roll
  expr-Match at e cs scope next = ap (λ (n : Numbering Expr). n scope next) (fold-roll-ExprTree (Numbering Expr) (Numbering Clause) (expr_step t) (clause_step t) (expr.Match at e cs))

pub ruleset expression_rules = (names-Wild, names-Var, names-Num, names-Con, pattern-Wild, pattern-Var, pattern-Num, pattern-Con, clause-of, expr-Num, expr-Var, expr-Call, expr-Build, expr-Binary, expr-To, expr-Let, expr-Match)
