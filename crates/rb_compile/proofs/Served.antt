-- What is left of a clause's pattern serves its body.
use Rattle.std.proofs.Common.{◌≡◌, ℕ, ◌+◌, ◌≤◌, Bool, true, false, List, [], ◌∷◌, ◌++◌, map, refl, sym, subst, ap, ◌∙◌, arith}
use Rattle.std.specs.Prelude.{if◌then◌else◌}
use Rattle.rb_core.specs.declared.value.Value.{Num as number}
use Rattle.rb_core.specs.declared.types.Ty.{Ty}
use Rattle.rb_core.specs.declared.types.Ty.TheVariants.{Int}
use Rattle.rb_core.specs.declared.types.DataDecl.{DataDecl}
use Rattle.rb_core.specs.declared.types.ConRef.{ConRef}
use Rattle.rb_core.specs.declared.expression.Expr.{Expr}
use Rattle.rb_core.specs.declared.pattern.Pat.{Pat, Wild, Var, Con}
use Rattle.rb_core.specs.Matching.{bindings}
use Rattle.rb_core.specs.Typing.{bound_type, field_types}
use Rattle.rb_core.specs.Inference.{binders}
use Rattle.rb_core.specs.Meaning.{value_or}
use Rattle.rb_core.proofs.PatternLaws.{Each, fold-Con, fold-Wild, induction}
use Rattle.rb_layout.specs.declared.layout.Layout.{Layout}
use Rattle.rb_facts.specs.Looks.{TypedPosition, looks_with, place_below, places_below, places_in, places_step}
use Rattle.rb_match.specs.Bounding.{binding_look}
use Rattle.rb_compile.specs.inner.Used.{IsPrunedFor, Serves, pruned_pattern}
use Rattle.rb_compile.proofs.Agreeing.{bound-append, value-append}
use Rattle.rb_compile.proofs.Pruning.{cut-Con, cut-Num, cut-Var, cut-Wild, cut_matches, cut_types, cut_values}

module _ (types : List DataDecl) (layouts : List Layout) where
  abbrev look : Ty → ℕ
  look = binding_look layouts

  abbrev cost : Pat → Ty → ℕ
  cost p t = looks_with look (places_in types p t)

  looks-behind : (xs ys : List TypedPosition) → looks_with look (xs ++ ys) ≡ looks_with look xs + looks_with look ys
  looks-behind [] ys = omega arith
  looks-behind (x ∷ xs) ys = let r = looks-behind xs ys in omega (arith, r)

  looks-under : (i : ℕ) (xs : List TypedPosition) → looks_with look (map (place_below i) xs) ≡ looks_with look xs
  looks-under i [] = refl
  looks-under i (x ∷ xs) = ap (λ n. look x.ty + n) (looks-under i xs)

  cost-Wild : (at : ℕ) (t : Ty) → cost (Wild at) t ≡ 0
  cost-Wild at t = ap (λ (f : Ty → List TypedPosition). looks_with look (f t)) (fold-Wild (Ty → List TypedPosition) (places_step types) at)

  cost-Con : (at : ℕ) (c : ConRef) (ps : List Pat) (t : Ty) → cost (Con at c ps) t ≡ look t + looks_with look (places_below (map (places_in types) ps) (field_types types c) 0)
  cost-Con at c ps t = ap (λ (f : Ty → List TypedPosition). looks_with look (f t)) (fold-Con (Ty → List TypedPosition) (places_step types) at c ps)

  module _ (keeps : ℕ → Bool) where
    abbrev cut : Pat → Pat
    cut = pruned_pattern keeps

    abbrev Fewer : Pat → Type 0
    Fewer p = (t : Ty) → cost (cut p) t ≤ cost p t

    all_fewer : (ps : List Pat) → Each Fewer ps → (ts : List Ty) (i : ℕ) → looks_with look (places_below (map (places_in types) (map cut ps)) ts i) ≤ looks_with look (places_below (map (places_in types) ps) ts i)
    all_fewer [] each ts i = omega arith
    all_fewer (p ∷ ps) each [] i = omega arith
    all_fewer (p ∷ ps) each (t ∷ ts) i =
        let a = looks-behind (map (place_below i) (places_in types (cut p) t)) (places_below (map (places_in types) (map cut ps)) ts (i + 1)) in
        let b = looks-behind (map (place_below i) (places_in types p t)) (places_below (map (places_in types) ps) ts (i + 1)) in
        let a1 = looks-under i (places_in types (cut p) t) in
        let b1 = looks-under i (places_in types p t) in
        let here = each.0 t in
        let rest = all_fewer ps each.1 ts (i + 1) in omega (arith, a, b, a1, b1, here, rest)

    fewer : (p : Pat) → Fewer p
    fewer = induction Fewer (record {
      wild = λ at t. (let e = ap (λ p. cost p t) (cut-Wild types keeps at) in omega (arith, e));
      var = λ at x t. of_var at x t (keeps x) (cut-Var types keeps at x);
      num = λ at n t. (let e = ap (λ p. cost p t) (cut-Num types keeps at n) ∙ cost-Wild at t in omega (arith, e));
      con = λ at c ps each t. (let e = ap (λ p. cost p t) (cut-Con types keeps at c ps) in
          let a = cost-Con at c (map cut ps) t in
          let b = all_fewer ps each (field_types types c) 0 in
          let d = cost-Con at c ps t in omega (arith, e, a, b, d));
    })
      where
        of_var : (at x : ℕ) (t : Ty) (b : Bool) → cut (Var at x) ≡ (if b then Var at x else Wild at) → cost (cut (Var at x)) t ≤ cost (Var at x) t
        of_var at x t true is = let e = ap (λ p. cost p t) is in omega (arith, e)
        of_var at x t false is = let e = ap (λ p. cost p t) is ∙ cost-Wild at t in omega (arith, e)

  pub serves : (body : Expr) (pat q : Pat) → IsPrunedFor body pat q → (s : Ty) → Serves types layouts body pat q s
  serves body pat q (keeps, kept, is) s = subst (λ p. Serves types layouts body pat p s) (sym is) (record {
    matches = cut_matches types keeps pat;
    few = fewer keeps pat s;
    scopes = λ sc x i. bound-append (Int 64) x sc (binders types pat s) ∙ sym (cut_types types keeps x (kept x i) pat (bound_type (Int 64) x sc) s) ∙ sym (bound-append (Int 64) x sc (binders types (pruned_pattern keeps pat) s));
    values = λ env v x i. value-append (number 0) x env (bindings pat v) ∙ sym (cut_values types keeps x (kept x i) pat (value_or (number 0) x env) v) ∙ sym (value-append (number 0) x env (bindings (pruned_pattern keeps pat) v));
  })
