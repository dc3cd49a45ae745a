-- Expressions: the equations of folds, with and without the parts themselves, and a plain induction.
use Rattle.std.proofs.Common.{◌≡◌, ℕ, List, [], ◌∷◌, map, subst}
use denote.Hole.Holds.{Such}
use Rattle.rb_core.specs.declared.types.ConRef.{ConRef}
use Rattle.rb_core.specs.declared.types.Ty.{Ty}
use Rattle.rb_core.specs.declared.expression.Op.{Op}
use Rattle.rb_core.specs.declared.expression.Clause.{Clause}
use Rattle.rb_core.specs.declared.expression.Expr.{Expr, Num, Var, Call, Build, Binary, To, Let, Match, roll-Expr}
use Rattle.rb_core.specs.declared.expression.Expr as X
use Rattle.rb_core.specs.declared.expression.Expr.TheBlock as Block
use Rattle.rb_core.specs.declared.expression.Expr.TheViews.{roll-Clause}
use Rattle.rb_core.specs.declared.expression.Expr.TheFolds.{ind-Expr, claims, map-Clause}
use Rattle.rb_core.specs.declared.expression.Expr.TheOpen as Layer
use Rattle.rb_core.specs.declared.expression.Expr.TheOpen.{Expr-F, Clause-F}

-- of each expression of a list, and of the body of each clause
abbrev pub Each : (Expr → Type 0) → List Expr → Type 0
Each P [] = Unit {0}
Each P (e ∷ es) = P e × Each P es

abbrev pub EachBody : (Expr → Type 0) → List Clause → Type 0
EachBody P [] = Unit {0}
EachBody P (c ∷ cs) = P c.body × EachBody P cs

-- what holds of each form where it holds of its parts
pub record Cases (P : Expr → Type 0) : Type 0 where
  pub num : (at n : ℕ) → P (Num at n)
  pub var : (at x : ℕ) → P (Var at x)
  pub call : (at g : ℕ) (es : List Expr) → Each P es → P (Call at g es)
  pub build : (at : ℕ) (c : ConRef) (es : List Expr) → Each P es → P (Build at c es)
  pub binary : (at : ℕ) (op : Op) (a b : Expr) → P a → P b → P (Binary at op a b)
  pub to : (at bits : ℕ) (a : Expr) → P a → P (To at bits a)
  pub bound : (at x : ℕ) (t : Ty) (a b : Expr) → P a → P b → P (Let at x t a b)
  pub choice : (at : ℕ) (e : Expr) (cs : List Clause) → P e → EachBody P cs → P (Match at e cs)

module _ (P : Expr → Type 0) where
  abbrev InBody : Clause → Type 0
  InBody c = P c.body

  abbrev SubExpr : Type 0
  SubExpr = Such Block.the_family (claims P InBody) Block.member-Expr

  abbrev SubClause : Type 0
  SubClause = Such Block.the_family (claims P InBody) Block.member-Clause

  each_sub : (es : List SubExpr) → Each P (map (λ (e : SubExpr). e.0) es)
  each_sub [] = tt
  each_sub (e ∷ es) = (e.1, each_sub es)

  each_body : (cs : List SubClause) → EachBody P (map (λ (c : SubClause). c.0) cs)
  each_body [] = tt
  each_body (c ∷ cs) = (c.1, each_body cs)

  expr_layer : Cases P → (x : Expr-F Expr Clause) (y : Expr-F SubExpr SubClause) →
      X.map-Expr SubExpr SubClause Expr Clause (λ e. e.0) (λ c. c.0) y ≡ x → P (roll-Expr x)
  unfolding X.roll-Expr denote.Hole.Carrier.roll
  expr_layer cases x (Layer.Num at n) e = subst (λ (l : Expr-F Expr Clause). P (roll-Expr l)) e (cases.num at n)
  expr_layer cases x (Layer.Var at v) e = subst (λ (l : Expr-F Expr Clause). P (roll-Expr l)) e (cases.var at v)
  expr_layer cases x (Layer.Call at g es) e = subst (λ (l : Expr-F Expr Clause). P (roll-Expr l)) e (cases.call at g (map (λ (s : SubExpr). s.0) es) (each_sub es))
  expr_layer cases x (Layer.Build at c es) e = subst (λ (l : Expr-F Expr Clause). P (roll-Expr l)) e (cases.build at c (map (λ (s : SubExpr). s.0) es) (each_sub es))
  expr_layer cases x (Layer.Binary at op a b) e = subst (λ (l : Expr-F Expr Clause). P (roll-Expr l)) e (cases.binary at op a.0 b.0 a.1 b.1)
  expr_layer cases x (Layer.To at bits a) e = subst (λ (l : Expr-F Expr Clause). P (roll-Expr l)) e (cases.to at bits a.0 a.1)
  expr_layer cases x (Layer.Let at v t a b) e = subst (λ (l : Expr-F Expr Clause). P (roll-Expr l)) e (cases.bound at v t a.0 b.0 a.1 b.1)
  expr_layer cases x (Layer.Match at s cs) e = subst (λ (l : Expr-F Expr Clause). P (roll-Expr l)) e (cases.choice at s.0 (map (λ (c : SubClause). c.0) cs) s.1 (each_body cs))

  clause_layer : (x : Clause-F Expr Clause) (y : Clause-F SubExpr SubClause) →
      map-Clause SubExpr SubClause Expr Clause (λ e. e.0) (λ c. c.0) y ≡ x → InBody (roll-Clause x)
  unfolding denote.Hole.Carrier.roll
  clause_layer x y e = subst (λ (l : Clause-F Expr Clause). InBody (roll-Clause l)) e y.body.1

  pub induction : Cases P → (e : Expr) → P e
  induction cases = ind-Expr P InBody (expr_layer cases) clause_layer
