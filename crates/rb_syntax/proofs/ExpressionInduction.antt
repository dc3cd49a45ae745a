-- Expressions of files: a plain induction.
use Rattle.std.proofs.Common.{◌≡◌, ℕ, List, [], ◌∷◌, map, subst}
use denote.Hole.Holds.{Such}
use Rattle.rb_core.specs.declared.expression.Op.{Op}
use Rattle.rb_syntax.specs.declared.tree.NameTree.{NameTree}
use Rattle.rb_syntax.specs.declared.tree.TyTree.{TyTree}
use Rattle.rb_syntax.specs.declared.tree.ClauseTree.{ClauseTree}
use Rattle.rb_syntax.specs.declared.tree.ExprTree.{ExprTree, Num, Var, Call, Build, Binary, To, Let, Match, roll-ExprTree}
use Rattle.rb_syntax.specs.declared.tree.ExprTree as X
use Rattle.rb_syntax.specs.declared.tree.ExprTree.TheBlock as Block
use Rattle.rb_syntax.specs.declared.tree.ExprTree.TheViews.{roll-ClauseTree}
use Rattle.rb_syntax.specs.declared.tree.ExprTree.TheFolds.{ind-ExprTree, claims, map-ClauseTree}
use Rattle.rb_syntax.specs.declared.tree.ExprTree.TheOpen as Layer
use Rattle.rb_syntax.specs.declared.tree.ExprTree.TheOpen.{ExprTree-F, ClauseTree-F}

-- of each expression of a list, and of the body of each clause
abbrev pub Each : (ExprTree → Type 0) → List ExprTree → Type 0
Each P [] = Unit {0}
Each P (e ∷ es) = P e × Each P es

abbrev pub EachBody : (ExprTree → Type 0) → List ClauseTree → Type 0
EachBody P [] = Unit {0}
EachBody P (c ∷ cs) = P c.body × EachBody P cs

-- what holds of each form where it holds of its parts
pub record Cases (P : ExprTree → Type 0) : Type 0 where
  pub num : (at n : ℕ) → P (Num at n)
  pub var : (at : ℕ) (name : NameTree) → P (Var at name)
  pub call : (at : ℕ) (name : NameTree) (es : List ExprTree) → Each P es → P (Call at name es)
  pub build : (at : ℕ) (name : NameTree) (es : List ExprTree) → Each P es → P (Build at name es)
  pub binary : (at : ℕ) (op : Op) (a b : ExprTree) → P a → P b → P (Binary at op a b)
  pub to : (at bits : ℕ) (a : ExprTree) → P a → P (To at bits a)
  pub bound : (at : ℕ) (name : NameTree) (t : TyTree) (a b : ExprTree) → P a → P b → P (Let at name t a b)
  pub choice : (at : ℕ) (e : ExprTree) (cs : List ClauseTree) → P e → EachBody P cs → P (Match at e cs)

module _ (P : ExprTree → Type 0) where
  abbrev InBody : ClauseTree → Type 0
  InBody c = P c.body

  abbrev SubExpr : Type 0
  SubExpr = Such Block.the_family (claims P InBody) Block.member-ExprTree

  abbrev SubClause : Type 0
  SubClause = Such Block.the_family (claims P InBody) Block.member-ClauseTree

  each_sub : (es : List SubExpr) → Each P (map (λ (e : SubExpr). e.0) es)
  each_sub [] = tt
  each_sub (e ∷ es) = (e.1, each_sub es)

  each_body : (cs : List SubClause) → EachBody P (map (λ (c : SubClause). c.0) cs)
  each_body [] = tt
  each_body (c ∷ cs) = (c.1, each_body cs)

  expr_layer : Cases P → (x : ExprTree-F ExprTree ClauseTree) (y : ExprTree-F SubExpr SubClause) →
      X.map-ExprTree SubExpr SubClause ExprTree ClauseTree (λ e. e.0) (λ c. c.0) y ≡ x → P (roll-ExprTree x)
  unfolding X.roll-ExprTree denote.Hole.Carrier.roll
  expr_layer cases x (Layer.Num at n) e = subst (λ (l : ExprTree-F ExprTree ClauseTree). P (roll-ExprTree l)) e (cases.num at n)
  expr_layer cases x (Layer.Var at name) e = subst (λ (l : ExprTree-F ExprTree ClauseTree). P (roll-ExprTree l)) e (cases.var at name)
  expr_layer cases x (Layer.Call at name es) e =
      subst (λ (l : ExprTree-F ExprTree ClauseTree). P (roll-ExprTree l)) e (cases.call at name (map (λ (s : SubExpr). s.0) es) (each_sub es))
  expr_layer cases x (Layer.Build at name es) e =
      subst (λ (l : ExprTree-F ExprTree ClauseTree). P (roll-ExprTree l)) e (cases.build at name (map (λ (s : SubExpr). s.0) es) (each_sub es))
  expr_layer cases x (Layer.Binary at op a b) e =
      subst (λ (l : ExprTree-F ExprTree ClauseTree). P (roll-ExprTree l)) e (cases.binary at op a.0 b.0 a.1 b.1)
  expr_layer cases x (Layer.To at bits a) e = subst (λ (l : ExprTree-F ExprTree ClauseTree). P (roll-ExprTree l)) e (cases.to at bits a.0 a.1)
  expr_layer cases x (Layer.Let at name t a b) e =
      subst (λ (l : ExprTree-F ExprTree ClauseTree). P (roll-ExprTree l)) e (cases.bound at name t a.0 b.0 a.1 b.1)
  expr_layer cases x (Layer.Match at s cs) e =
      subst (λ (l : ExprTree-F ExprTree ClauseTree). P (roll-ExprTree l)) e (cases.choice at s.0 (map (λ (c : SubClause). c.0) cs) s.1 (each_body cs))

  clause_layer : (x : ClauseTree-F ExprTree ClauseTree) (y : ClauseTree-F SubExpr SubClause) →
      map-ClauseTree SubExpr SubClause ExprTree ClauseTree (λ e. e.0) (λ c. c.0) y ≡ x → InBody (roll-ClauseTree x)
  unfolding denote.Hole.Carrier.roll
  clause_layer x y e = subst (λ (l : ClauseTree-F ExprTree ClauseTree). InBody (roll-ClauseTree l)) e y.body.1

  pub induction : Cases P → (e : ExprTree) → P e
  induction cases = ind-ExprTree P InBody (expr_layer cases) clause_layer
