-- The matches of an expression's parts are among its own.
use Rattle.std.proofs.Common.{◌≡◌, ℕ, zero, suc, inl, inr, List, [], ◌∷◌, ◌++◌, map, Some, None, refl, sym, subst, ap}
use Rattle.std.specs.Prelude.{slice_get}
use Rattle.std.specs.List.{flat_map}
use Rattle.rb_core.specs.declared.types.Ty.{Ty}
use Rattle.rb_core.specs.declared.types.ConRef.{ConRef}
use Rattle.rb_core.specs.declared.types.DataDecl.{DataDecl}
use Rattle.rb_core.specs.declared.typing.Binder.{Binder}
use Rattle.rb_core.specs.declared.pattern.Pat.{Pat}
use Rattle.rb_core.specs.declared.site.Site.{Site}
use Rattle.rb_core.specs.declared.program.Fun.{Fun}
use Rattle.rb_core.specs.declared.expression.Op.{Op}
use Rattle.rb_core.specs.declared.expression.Clause.{Clause}
use Rattle.rb_core.specs.declared.expression.Expr.{Expr}
use Rattle.rb_core.specs.declared.expression.Expr as X
use Rattle.rb_core.specs.Clauses.{pat_of}
use Rattle.rb_core.specs.Coverage.{AreExhaustive, SitedBranch, branch_sites, part_sites, sites}
use Rattle.rb_core.specs.Inference.{binders, inferred_type, with_binder}
use Rattle.rb_core.specs.Matching.{IsExhaustive}
use Rattle.rb_core.proofs.CoverageForms.{part, branch, sites-Clause, sites-Call, sites-Build, sites-Binary, sites-To, sites-Let, sites-Match}
use Rattle.rb_fragment.specs.Plan.{Plan}
use Rattle.rb_compile.specs.inner.Ready.{IsAmong, SiteIsReady, SitesAreReady}

pub among-left : (xs ys : List Site) (s : Site) → IsAmong s xs → IsAmong s (xs ++ ys)
among-left [] ys s i = absurd i
among-left (x ∷ xs) ys s (inl e) = inl e
among-left (x ∷ xs) ys s (inr i) = inr (among-left xs ys s i)

pub among-right : (xs ys : List Site) (s : Site) → IsAmong s ys → IsAmong s (xs ++ ys)
among-right [] ys s i = i
among-right (x ∷ xs) ys s i = inr (among-right xs ys s i)

-- an exhaustive match is among exhaustive ones
pub exhaustive_at : (types : List DataDecl) (ss : List Site) (s : Site) → AreExhaustive types ss → IsAmong s ss → IsExhaustive types s.scrutinee s.patterns
exhaustive_at types [] s all i = absurd i
exhaustive_at types (x ∷ ss) s all (inl e) = subst (λ (y : Site). IsExhaustive types y.scrutinee y.patterns) e all.0
exhaustive_at types (x ∷ ss) s all (inr i) = exhaustive_at types ss s all.1 i

module _ (types : List DataDecl) (funs : List Fun) where
  part_among : (es : List Expr) (scope : List Binder) (k : ℕ) (e : Expr) → slice_get es k ≡ Some e → (s : Site) → IsAmong s (sites types funs e scope)
      → IsAmong s (flat_map (part_sites scope) (map (part types funs) es))
  part_among [] scope k e at s i = cc at
  part_among (x ∷ es) scope zero e at s i =
      let is : x ≡ e = cc at in
      among-left (sites types funs x scope) (flat_map (part_sites scope) (map (part types funs) es)) s (subst (λ (y : Expr). IsAmong s (sites types funs y scope)) (sym is) i)
  part_among (x ∷ es) scope (suc k) e at s i =
      among-right (sites types funs x scope) (flat_map (part_sites scope) (map (part types funs) es)) s (part_among es scope k e at s i)

  branch_among : (cs : List Clause) (t : Ty) (scope : List Binder) (k : ℕ) (c : Clause) → slice_get cs k ≡ Some c → (s : Site) → IsAmong s (sites types funs c.body (scope ++ binders types c.pat t))
      → IsAmong s (flat_map (branch_sites types t scope) (map (branch types funs) cs))
  branch_among [] t scope k c at s i = cc at
  branch_among (d ∷ cs) t scope zero c at s i =
      let is : d ≡ c = cc at in
      let here = subst (λ (x : Clause). IsAmong s (sites types funs x.body (scope ++ binders types x.pat t))) (sym is) i in
      among-left (branch_sites types t scope (branch types funs d)) (flat_map (branch_sites types t scope) (map (branch types funs) cs)) s
      (subst (λ l. IsAmong s l) (sym (sites-Clause types funs d (scope ++ binders types d.pat t))) here)
  branch_among (d ∷ cs) t scope (suc k) c at s i =
      among-right (branch_sites types t scope (branch types funs d)) (flat_map (branch_sites types t scope) (map (branch types funs) cs)) s (branch_among cs t scope k c at s i)

  pub patterns_are : (cs : List Clause) → map (λ (b : SitedBranch). b.0.pat) (map (branch types funs) cs) ≡ map pat_of cs
  patterns_are [] = refl
  patterns_are (c ∷ cs) = ap (λ (l : List Pat). c.pat ∷ l) (patterns_are cs)

module _ (plan : Plan) (f : ℕ) where
  abbrev types : List DataDecl
  types = plan.program.types

  abbrev funs : List Fun
  funs = plan.program.funs

  abbrev pub Ready : Expr → List Binder → Type 0
  Ready e scope = SitesAreReady plan f (sites types funs e scope)

  pub ready-Binary : (at : ℕ) (op : Op) (a b : Expr) (scope : List Binder) → Ready (X.Binary at op a b) scope → Ready a scope × Ready b scope
  ready-Binary at op a b scope h =
      let here = subst (SitesAreReady plan f) (sites-Binary types funs at op a b scope) h in
      (λ s i. here s (among-left (sites types funs a scope) (sites types funs b scope) s i), λ s i. here s (among-right (sites types funs a scope) (sites types funs b scope) s i))

  pub ready-Let : (at x : ℕ) (u : Ty) (a b : Expr) (scope : List Binder) → Ready (X.Let at x u a b) scope → Ready a scope × Ready b (with_binder scope x u)
  ready-Let at x u a b scope h =
      let here = subst (SitesAreReady plan f) (sites-Let types funs at x u a b scope) h in
      let inner = with_binder scope x u in
      (λ s i. here s (among-left (sites types funs a scope) (sites types funs b inner) s i), λ s i. here s (among-right (sites types funs a scope) (sites types funs b inner) s i))

  pub ready-To : (at bits : ℕ) (a : Expr) (scope : List Binder) → Ready (X.To at bits a) scope → Ready a scope
  ready-To at bits a scope h = subst (SitesAreReady plan f) (sites-To types funs at bits a scope) h

  pub ready-Call : (at g : ℕ) (es : List Expr) (scope : List Binder) → Ready (X.Call at g es) scope → (k : ℕ) (e : Expr) → slice_get es k ≡ Some e → Ready e scope
  ready-Call at g es scope h k e there = λ s i. subst (SitesAreReady plan f) (sites-Call types funs at g es scope) h s (part_among types funs es scope k e there s i)

  pub ready-Build : (at : ℕ) (c : ConRef) (es : List Expr) (scope : List Binder) → Ready (X.Build at c es) scope → (k : ℕ) (e : Expr) → slice_get es k ≡ Some e → Ready e scope
  ready-Build at c es scope h k e there = λ s i. subst (SitesAreReady plan f) (sites-Build types funs at c es scope) h s (part_among types funs es scope k e there s i)

  -- a match, its scrutinee and its bodies
  pub ready-Match : (at : ℕ) (e : Expr) (cs : List Clause) (scope : List Binder) (t : Ty) → inferred_type types funs e None scope ≡ t → Ready (X.Match at e cs) scope
      → SiteIsReady plan f (record { at = at; scrutinee = t; patterns = map pat_of cs }) × Ready e scope
      × ((k : ℕ) (c : Clause) → slice_get cs k ≡ Some c → Ready c.body (scope ++ binders types c.pat t))
  ready-Match at e cs scope t is h =
      let u = inferred_type types funs e None scope in
      let here = subst (SitesAreReady plan f) (sites-Match types funs at e cs scope) h in
      let first : Site = record { at = at; scrutinee = u; patterns = map (λ (b : SitedBranch). b.0.pat) (map (branch types funs) cs) } in
      let rest = flat_map (branch_sites types u scope) (map (branch types funs) cs) in
      subst (λ k. SiteIsReady plan f (record { at = at; scrutinee = k; patterns = map pat_of cs }) × Ready e scope × ((j : ℕ) (c : Clause) → slice_get cs j ≡ Some c → Ready c.body (scope ++ binders types c.pat k))) is (
        subst (λ (l : List Pat). SiteIsReady plan f (record { at = at; scrutinee = u; patterns = l })) (patterns_are types funs cs) (here first (inl refl)),
        λ s i. here s (inr (among-left (sites types funs e scope) rest s i)),
        λ k c there s i. here s (inr (among-right (sites types funs e scope) rest s (branch_among types funs cs u scope k c there s i))),
      )
