-- Scopes kept with the innermost binders last, and lookups in one list behind another.
use Rattle.std.proofs.Common.{◌≡◌, Bool, true, false, cond, Option, Some, None, MatchOption, List, [], ◌∷◌, ◌++◌, drop, reverse, refl, sym, ap, ◌∙◌}
use Rattle.std.specs.Option.{option_or}
use Rattle.std.specs.Map.{lookup}
use Rattle.std.proofs.lemmas.List.{reverse-append}

-- the innermost binders are left
pub left-view : {A : Type 0} (items new now : List A) (last : Option A) → MatchOption last ((items ≡ []) × (new ≡ [])) (λ x. items ≡ new ++ x ∷ [])
    → reverse items ≡ now → reverse new ≡ drop 1 now
left-view items new now (Some x) is seen = sym (ap (drop 1) (sym seen ∙ ap reverse is ∙ reverse-append new (x ∷ [])))
left-view items new now None is seen = ap reverse is.1 ∙ ap (drop 1) (sym (ap reverse is.0) ∙ seen)

-- the first, or else the second
module _ {K A : Type 0} (test : K → Bool) where
  pub lookup-append : (xs ys : List (K × A)) → lookup test (xs ++ ys) ≡ option_or (lookup test xs) (lookup test ys)
  lookup-append [] ys = refl
  lookup-append (x ∷ xs) ys = by (test x.0) (lookup-append xs ys)
    where
      by : (b : Bool) → lookup test (xs ++ ys) ≡ option_or (lookup test xs) (lookup test ys)
          → cond b (Some x.1) (lookup test (xs ++ ys)) ≡ option_or (cond b (Some x.1) (lookup test xs)) (lookup test ys)
      by true rest = refl
      by false rest = rest

pub option_or-none : {A : Type 0} (o : Option A) → option_or o None ≡ o
option_or-none None = refl
option_or-none (Some a) = refl
