-- Looks at distinct places, all among those at which patterns have numbers and constructors, are within their sum.
use Rattle.std.proofs.Common.{◌≡◌, ℕ, zero, suc, ◌+◌, ◌≤◌, Bool, true, false, List, [], ◌∷◌, map, Some, refl, sym, subst, ap, ◌∙◌, arith}
use Rattle.std.specs.Prelude.{slice_get, filter, not, if◌then◌else◌}
use Rattle.std.specs.List.{AllByRecursion}
use Rattle.std.proofs.lemmas.Bool.{and_parts}
use Rattle.std.proofs.lemmas.Option.{same_Some}
use Rattle.rb_core.specs.Typing.{same_type}
use Rattle.rb_core.proofs.TypingAnswers.{same_type-is}
use Rattle.rb_decide.specs.Decisions.{AreDistinct}
use Rattle.rb_core.specs.declared.types.Ty.{Ty}
use Rattle.rb_layout.specs.Flattening.{same_path}
use Rattle.rb_rel.proofs.Holding.{path_is}
use Rattle.rb_facts.specs.Looks.{TypedPosition, looks_with}
use Rattle.rb_match.specs.Bounding.{same_place, distinct_places}
use Rattle.rb_facts.specs.Ways.{path_of}
use Rattle.rb_facts.specs.Places.{IsPlaceIn}

place_is : (a b : TypedPosition) → same_place a b ≡ true → a ≡ b
place_is a b e =
    let h = and_parts (same_path a.path b.path) (same_type a.ty b.ty) e in
    ap (λ q. record { path = q; ty = a.ty }) (path_is a.path b.path h.0) ∙ ap (λ u. record { path = b.path; ty = u }) (same_type-is a.ty b.ty h.1)

kept : (f : TypedPosition → Bool) (q : TypedPosition) → f q ≡ true → (ps : List TypedPosition) → IsPlaceIn q ps → IsPlaceIn q (filter f ps)
kept f q holds [] (k, at) = absurd cc
kept f q holds (p ∷ ps) (zero, at) =
    let same : p ≡ q = same_Some p q at in
    subst (λ u. IsPlaceIn q (if u then p ∷ filter f ps else filter f ps)) (sym (ap f same ∙ holds)) (0, at)
kept f q holds (p ∷ ps) (suc k, at) = let r = kept f q holds ps (k, at) in go (f p) r
  where
    go : (u : Bool) → IsPlaceIn q (filter f ps) → IsPlaceIn q (if u then p ∷ filter f ps else filter f ps)
    go true r = (suc r.0, r.1)
    go false r = r

-- each place is among the distinct ones
pub in_distinct : (q : TypedPosition) (ps : List TypedPosition) → IsPlaceIn q ps → IsPlaceIn q (distinct_places ps)
in_distinct q [] (k, at) = absurd cc
in_distinct q (p ∷ ps) (zero, at) = (0, at)
in_distinct q (p ∷ ps) (suc k, at) = let r = in_distinct q ps (k, at) in go (same_place p q) refl r
  where
    go : (u : Bool) → same_place p q ≡ u → IsPlaceIn q (distinct_places ps) → IsPlaceIn q (p ∷ filter (λ other. not (same_place p other)) (distinct_places ps))
    go true e r = (0, ap Some (place_is p q e))
    go false e r = let m = kept (λ other. not (same_place p other)) q (ap not e) (distinct_places ps) r in (suc m.0, m.1)

-- a list without one item
abbrev without : ℕ → List TypedPosition → List TypedPosition
without k [] = []
without zero (p ∷ ps) = ps
without (suc k) (p ∷ ps) = p ∷ without k ps

without_sum : (look : Ty → ℕ) (ps : List TypedPosition) (k : ℕ) (p : TypedPosition) → slice_get ps k ≡ Some p → looks_with look ps ≡ look p.ty + looks_with look (without k ps)
without_sum look [] k p at = absurd cc
without_sum look (x ∷ ps) zero p at = ap (λ (y : TypedPosition). look y.ty + looks_with look ps) (same_Some x p at)
without_sum look (x ∷ ps) (suc k) p at = let h = without_sum look ps k p at in omega (arith, h)

in_without : (ps : List TypedPosition) (k : ℕ) (p q : TypedPosition) → slice_get ps k ≡ Some p → (p ≡ q → ⊥) → IsPlaceIn q ps → IsPlaceIn q (without k ps)
in_without [] k p q at ne (j, e) = absurd cc
in_without (x ∷ ps) zero p q at ne (zero, e) = absurd (ne (sym (same_Some x p at) ∙ same_Some x q e))
in_without (x ∷ ps) zero p q at ne (suc j, e) = (j, e)
in_without (x ∷ ps) (suc k) p q at ne (zero, e) = (0, e)
in_without (x ∷ ps) (suc k) p q at ne (suc j, e) = let r = in_without ps k p q at ne (j, e) in (suc r.0, r.1)

apart_at : (q : List ℕ) (path : List TypedPosition) → AllByRecursion (λ r. q ≡ r → ⊥) (map path_of path) → (x : TypedPosition) → IsPlaceIn x path → q ≡ x.path → ⊥
apart_at q [] h x (k, at) e = cc at
apart_at q (y ∷ path) h x (zero, at) e = h.0 (e ∙ sym (ap path_of (same_Some y x at)))
apart_at q (y ∷ path) h x (suc k, at) e = apart_at q path h.1 x (k, at) e

pub within_sum : (look : Ty → ℕ) (path ds : List TypedPosition) → AreDistinct (map path_of path) → ((p : TypedPosition) → IsPlaceIn p path → IsPlaceIn p ds) → looks_with look path ≤ looks_with look ds
within_sum look [] ds once all = omega arith
within_sum look (p ∷ path) ds once all =
    let i = all p (0, refl) in
    let sum = without_sum look ds i.0 p i.1 in
    let rest = within_sum look path (without i.0 ds) once.1 (λ q j. in_without ds i.0 p q i.1 (λ e. apart_at p.path path once.0 q j (ap path_of e)) (all q (suc j.0, j.1))) in
    omega (arith, sum, rest)

pub all_at : {A : Type 0} (P : A → Type 0) (xs : List A) → AllByRecursion P xs → (k : ℕ) (x : A) → slice_get xs k ≡ Some x → P x
all_at P [] h k x e = absurd cc
all_at P (y ∷ xs) h zero x e = subst P (same_Some y x e) h.0
all_at P (y ∷ xs) h (suc k) x e = all_at P xs h.1 k x e
