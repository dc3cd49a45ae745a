-- The matches of an expression, form by form.
use Rattle.std.proofs.Common.{◌≡◌, ℕ, List, map, ap}
use Rattle.rb_core.specs.declared.types.Ty.{Ty}
use Rattle.rb_core.specs.declared.types.ConRef.{ConRef}
use Rattle.rb_core.specs.declared.types.DataDecl.{DataDecl}
use Rattle.rb_core.specs.declared.program.Fun.{Fun}
use Rattle.rb_core.specs.declared.typing.Binder.{Binder}
use Rattle.rb_core.specs.declared.expression.Op.{Op}
use Rattle.rb_core.specs.declared.expression.Clause.{Clause}
use Rattle.rb_core.specs.declared.expression.Expr as X
use Rattle.rb_core.specs.declared.expression.Expr.{Expr}
use Rattle.rb_core.specs.declared.expression.Expr.TheOpen as E
use Rattle.rb_core.specs.declared.expression.Expr.TheFolds.{para-Clause, para-roll-Expr, para-roll-Clause}
use Rattle.rb_core.specs.Coverage.{Sites, SitedPart, SitedBranch, sites, sites_step, body_sites}

-- the sites in a clause's body, given the scope that the body stands in, which has what the pattern binds
abbrev pub clause_sites : List DataDecl → List Fun → Clause → Sites
clause_sites types funs = para-Clause Sites Sites (sites_step types funs) body_sites

module _ (types : List DataDecl) (funs : List Fun) where
  -- a part and a clause with their matches
  abbrev pub part : Expr → SitedPart
  part e = (e, sites types funs e)

  abbrev pub branch : Clause → SitedBranch
  branch c = (c, clause_sites types funs c)

  pub sites-Clause : (c : Clause) (scope : List Binder) → clause_sites types funs c scope ≡ sites types funs c.body scope
  unfolding denote.Hole.Carrier.roll
  sites-Clause c scope = ap (λ (s : Sites). s scope) (para-roll-Clause Sites Sites (sites_step types funs) body_sites (record { pat = c.pat; body = c.body }))

  pub sites-Num : (at n : ℕ) (scope : List Binder) → sites types funs (X.Num at n) scope ≡ sites_step types funs (E.Num at n) scope
  unfolding X.roll-Expr denote.Hole.Carrier.roll
  sites-Num at n scope = ap (λ (s : Sites). s scope) (para-roll-Expr Sites Sites (sites_step types funs) body_sites (E.Num at n))

  pub sites-Var : (at x : ℕ) (scope : List Binder) → sites types funs (X.Var at x) scope ≡ sites_step types funs (E.Var at x) scope
  unfolding X.roll-Expr denote.Hole.Carrier.roll
  sites-Var at x scope = ap (λ (s : Sites). s scope) (para-roll-Expr Sites Sites (sites_step types funs) body_sites (E.Var at x))

  pub sites-Call : (at g : ℕ) (es : List Expr) (scope : List Binder) → sites types funs (X.Call at g es) scope ≡ sites_step types funs (E.Call at g (map part es)) scope
  unfolding X.roll-Expr denote.Hole.Carrier.roll
  sites-Call at g es scope = ap (λ (s : Sites). s scope) (para-roll-Expr Sites Sites (sites_step types funs) body_sites (E.Call at g es))

  pub sites-Build : (at : ℕ) (c : ConRef) (es : List Expr) (scope : List Binder) → sites types funs (X.Build at c es) scope ≡ sites_step types funs (E.Build at c (map part es)) scope
  unfolding X.roll-Expr denote.Hole.Carrier.roll
  sites-Build at c es scope = ap (λ (s : Sites). s scope) (para-roll-Expr Sites Sites (sites_step types funs) body_sites (E.Build at c es))

  pub sites-Binary : (at : ℕ) (op : Op) (a b : Expr) (scope : List Binder) → sites types funs (X.Binary at op a b) scope ≡ sites_step types funs (E.Binary at op (part a) (part b)) scope
  unfolding X.roll-Expr denote.Hole.Carrier.roll
  sites-Binary at op a b scope = ap (λ (s : Sites). s scope) (para-roll-Expr Sites Sites (sites_step types funs) body_sites (E.Binary at op a b))

  pub sites-To : (at bits : ℕ) (a : Expr) (scope : List Binder) → sites types funs (X.To at bits a) scope ≡ sites_step types funs (E.To at bits (part a)) scope
  unfolding X.roll-Expr denote.Hole.Carrier.roll
  sites-To at bits a scope = ap (λ (s : Sites). s scope) (para-roll-Expr Sites Sites (sites_step types funs) body_sites (E.To at bits a))

  pub sites-Let : (at x : ℕ) (t : Ty) (a b : Expr) (scope : List Binder) → sites types funs (X.Let at x t a b) scope ≡ sites_step types funs (E.Let at x t (part a) (part b)) scope
  unfolding X.roll-Expr denote.Hole.Carrier.roll
  sites-Let at x t a b scope = ap (λ (s : Sites). s scope) (para-roll-Expr Sites Sites (sites_step types funs) body_sites (E.Let at x t a b))

  pub sites-Match : (at : ℕ) (e : Expr) (cs : List Clause) (scope : List Binder) → sites types funs (X.Match at e cs) scope ≡ sites_step types funs (E.Match at (part e) (map branch cs)) scope
  unfolding X.roll-Expr denote.Hole.Carrier.roll
  sites-Match at e cs scope = ap (λ (s : Sites). s scope) (para-roll-Expr Sites Sites (sites_step types funs) body_sites (E.Match at e cs))

pub ruleset site_rules = (sites-Clause, sites-Num, sites-Var, sites-Call, sites-Build, sites-Binary, sites-To, sites-Let, sites-Match)
