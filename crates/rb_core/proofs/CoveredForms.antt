-- Exhaustive matches, form by form.
use Rattle.std.proofs.Common.{◌≡◌, ◌++◌, ℕ, zero, suc, List, [], ◌∷◌, map, Some, None, refl, subst, ap}
use Rattle.std.specs.Prelude.{slice_get}
use Rattle.std.specs.List.{flat_map}
use Rattle.rb_core.specs.declared.types.Ty.{Ty}
use Rattle.rb_core.specs.declared.types.ConRef.{ConRef}
use Rattle.rb_core.specs.declared.types.DataDecl.{DataDecl}
use Rattle.rb_core.specs.declared.typing.Binder.{Binder}
use Rattle.rb_core.specs.declared.pattern.Pat.{Pat}
use Rattle.rb_core.specs.declared.site.Site.{Site}
use Rattle.rb_core.specs.declared.program.Fun.{Fun}
use Rattle.rb_core.specs.declared.expression.Op.{Op}
use Rattle.rb_core.specs.declared.expression.Clause.{Clause}
use Rattle.rb_core.specs.declared.expression.Expr.{Expr}
use Rattle.rb_core.specs.declared.expression.Expr as X
use Rattle.rb_core.specs.Inference.{with_binder, inferred_type, binders}
use Rattle.rb_core.specs.Matching.{IsExhaustive}
use Rattle.rb_core.specs.Coverage.{AreExhaustive, SitedBranch, part_sites, branch_sites, sites, function_sites}
use Rattle.rb_core.proofs.CoverageForms.{part, branch, sites-Clause, sites-Call, sites-Build, sites-Binary, sites-To, sites-Let, sites-Match}
use Rattle.rb_core.specs.Clauses.{pat_of}

pub covered_both : (types : List DataDecl) (xs ys : List Site) → AreExhaustive types (xs ++ ys) → AreExhaustive types xs × AreExhaustive types ys
covered_both types [] ys h = (tt, h)
covered_both types (x ∷ xs) ys h = let r = covered_both types xs ys h.1 in ((h.0, r.0), r.1)

-- each function's matches
pub covered_at : (types : List DataDecl) (funs : List Fun) (fs : List Fun) (g : ℕ) (f : Fun) → AreExhaustive types (flat_map (function_sites types funs) fs) → slice_get fs g ≡ Some f → AreExhaustive types (function_sites types funs f)
covered_at types funs [] g f h at = cc
covered_at types funs (x ∷ fs) zero f h at =
    let is : x ≡ f = cc at in
    subst (λ (y : Fun). AreExhaustive types (function_sites types funs y)) is (covered_both types (function_sites types funs x) (flat_map (function_sites types funs) fs) h).0
covered_at types funs (x ∷ fs) (suc g) f h at = covered_at types funs fs g f (covered_both types (function_sites types funs x) (flat_map (function_sites types funs) fs) h).1 at

module _ (types : List DataDecl) (funs : List Fun) where
  abbrev Covered : Expr → List Binder → Type 0
  Covered e scope = AreExhaustive types (sites types funs e scope)

  pub covered-Binary : (at : ℕ) (op : Op) (a b : Expr) (scope : List Binder) → Covered (X.Binary at op a b) scope → Covered a scope × Covered b scope
  covered-Binary at op a b scope h = covered_both types _ _ (subst (AreExhaustive types) (sites-Binary types funs at op a b scope) h)

  pub covered-Let : (at x : ℕ) (u : Ty) (a b : Expr) (scope : List Binder) → Covered (X.Let at x u a b) scope → Covered a scope × Covered b (with_binder scope x u)
  covered-Let at x u a b scope h = covered_both types _ _ (subst (AreExhaustive types) (sites-Let types funs at x u a b scope) h)

  abbrev pub AllCovered : List Expr → List Binder → Type 0
  AllCovered [] scope = Unit {0}
  AllCovered (e ∷ es) scope = Covered e scope × AllCovered es scope

  parts_covered : (es : List Expr) (scope : List Binder) → AreExhaustive types (flat_map (part_sites scope) (map (part types funs) es)) → AllCovered es scope
  parts_covered [] scope h = tt
  parts_covered (e ∷ es) scope h = let r = covered_both types (sites types funs e scope) (flat_map (part_sites scope) (map (part types funs) es)) h in (r.0, parts_covered es scope r.1)

  pub covered-Call : (at g : ℕ) (es : List Expr) (scope : List Binder) → Covered (X.Call at g es) scope → AllCovered es scope
  covered-Call at g es scope h = parts_covered es scope (subst (AreExhaustive types) (sites-Call types funs at g es scope) h)

  pub covered-Build : (at : ℕ) (c : ConRef) (es : List Expr) (scope : List Binder) → Covered (X.Build at c es) scope → AllCovered es scope
  covered-Build at c es scope h = parts_covered es scope (subst (AreExhaustive types) (sites-Build types funs at c es scope) h)

  pub covered-To : (at bits : ℕ) (a : Expr) (scope : List Binder) → Covered (X.To at bits a) scope → Covered a scope
  covered-To at bits a scope h = subst (AreExhaustive types) (sites-To types funs at bits a scope) h

  branches_covered : (cs : List Clause) (s : Ty) (scope : List Binder) → AreExhaustive types (flat_map (branch_sites types s scope) (map (branch types funs) cs)) → (k : ℕ) (c : Clause) → slice_get cs k ≡ Some c → Covered c.body (scope ++ binders types c.pat s)
  branches_covered [] s scope h k c at = cc
  branches_covered (d ∷ cs) s scope h zero c at =
      let is : d ≡ c = cc at in
      let r = covered_both types (branch_sites types s scope (branch types funs d)) (flat_map (branch_sites types s scope) (map (branch types funs) cs)) h in
      subst (λ (x : Clause). Covered x.body (scope ++ binders types x.pat s)) is (subst (AreExhaustive types) (sites-Clause types funs d (scope ++ binders types d.pat s)) r.0)
  branches_covered (d ∷ cs) s scope h (suc k) c at =
      let r = covered_both types (branch_sites types s scope (branch types funs d)) (flat_map (branch_sites types s scope) (map (branch types funs) cs)) h in
      branches_covered cs s scope r.1 k c at

  pats_are : (cs : List Clause) → map (λ (b : SitedBranch). b.0.pat) (map (branch types funs) cs) ≡ map pat_of cs
  pats_are [] = refl
  pats_are (c ∷ cs) = ap (λ (l : List Pat). c.pat ∷ l) (pats_are cs)

  pub covered-Match : (at : ℕ) (e : Expr) (cs : List Clause) (scope : List Binder) (s : Ty) → inferred_type types funs e None scope ≡ s → Covered (X.Match at e cs) scope
      → IsExhaustive types s (map pat_of cs) × Covered e scope × ((k : ℕ) (c : Clause) → slice_get cs k ≡ Some c → Covered c.body (scope ++ binders types c.pat s))
  covered-Match at e cs scope s is h =
      let u = inferred_type types funs e None scope in
      let all = subst (AreExhaustive types) (sites-Match types funs at e cs scope) h in
      let r = covered_both types (sites types funs e scope) (flat_map (branch_sites types u scope) (map (branch types funs) cs)) all.1 in
      subst (λ (k : Ty). IsExhaustive types k (map pat_of cs) × Covered e scope × ((k' : ℕ) (c : Clause) → slice_get cs k' ≡ Some c → Covered c.body (scope ++ binders types c.pat k))) is
      (subst (λ l. IsExhaustive types u l) (pats_are cs) all.0, r.0, branches_covered cs u scope r.1)
