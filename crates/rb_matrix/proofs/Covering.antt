-- Patterns that match all that others do.
use Rattle.std.proofs.Common.{◌≡◌, ℕ, suc, ◌+◌, ◌≤◌, List, [], ◌∷◌, ◌++◌, map, length, Bool, true, false, ◌&&◌, ◌==◌, Some, refl, sym, ap, ◌∙◌, subst, arith, inl, inr}
use Rattle.std.specs.Prelude.{slice_get}
use Rattle.std.specs.Bool.{OnTrue}
use Rattle.std.proofs.lemmas.Bool.{cases_lt, false≢true}
use Rattle.std.proofs.lemmas.Option.{same_Some, slice_get_within}
use Rattle.rb_core.specs.declared.value.Value.{Value, out-Value}
use Rattle.rb_core.specs.declared.value.Value.TheOpen as V
use Rattle.rb_core.specs.declared.types.ConRef.{ConRef}
use Rattle.rb_core.specs.declared.pattern.Pat.{Pat}
use Rattle.rb_core.specs.declared.pattern.Pat as Pats
use Rattle.rb_core.specs.Matching.{all_pass, is_con, matches_of}
use Rattle.rb_matrix.specs.Rows.{row_matches}
use Rattle.rb_matrix.specs.inner.Against.{Covers, CoverEach, AreCovered}
use Rattle.rb_matrix.proofs.Differing.{at-con}
use Rattle.rb_matrix.proofs.Keys.{get-push}
use Rattle.rb_matrix.proofs.Vectors.{and-left, and-right, con-matches}

-- Rows -------------------------------------------------------------------------------------------

pub covered-more : (i : ℕ) (ps qs : List Pat) (p q : Pat) → slice_get ps i ≡ Some p → slice_get qs i ≡ Some q → Covers p q → AreCovered i ps qs → AreCovered (i + 1) ps qs
covered-more i ps qs p q at bt c h = λ k x y lt here there. elim (cases_lt k i) [
  | inl l ↦ h k x y l here there
  | inr g ↦
      let same : k ≡ i = omega (arith, lt, g) in
      let one : p ≡ x = same_Some p x (sym at ∙ ap (slice_get ps) (sym same) ∙ here) in
      let other : q ≡ y = same_Some q y (sym bt ∙ ap (slice_get qs) (sym same) ∙ there) in
      λ v m. ap (λ (r : Pat). matches_of r v) (sym one) ∙ c v (ap (λ (r : Pat). matches_of r v) other ∙ m)
]

-- one more behind the others
pub covered-push : (i : ℕ) (ps qs : List Pat) (p q : Pat) → length qs ≡ i → slice_get ps i ≡ Some p → Covers p q → AreCovered i ps qs → AreCovered (i + 1) ps (qs ++ q ∷ [])
covered-push i ps qs p q len at c h = λ k x y lt here there. elim (get-push qs q k y there) [
  | inl l ↦ h k x y (let w = slice_get_within qs k y l in omega (arith, w, len)) here l
  | inr s ↦
      let one : p ≡ x = same_Some p x (sym at ∙ ap (slice_get ps) (sym (s.0 ∙ len)) ∙ here) in
      λ v m. ap (λ (r : Pat). matches_of r v) (sym one) ∙ c v (ap (λ (r : Pat). matches_of r v) s.1 ∙ m)
]

both : (a b : Bool) → a ≡ true → b ≡ true → (a && b) ≡ true
both a b h g = ap (λ c. c && b) h ∙ g

cover-all : (ps qs : List Pat) → length ps ≡ length qs → ((k : ℕ) (p q : Pat) → slice_get ps k ≡ Some p → slice_get qs k ≡ Some q → Covers p q)
    → (vs : List Value) → row_matches qs vs ≡ true → row_matches ps vs ≡ true
cover-all [] [] e h vs m = m
cover-all [] (q ∷ qs) e h vs m = absurd (omega (arith, e))
cover-all (p ∷ ps) [] e h vs m = absurd (omega (arith, e))
cover-all (p ∷ ps) (q ∷ qs) e h [] m = absurd (false≢true m)
cover-all (p ∷ ps) (q ∷ qs) e h (v ∷ vs) m =
    both (matches_of p v) (row_matches ps vs) (h 0 p q refl refl v (and-left (matches_of q v) (row_matches qs vs) m))
    (cover-all ps qs (omega (arith, e)) (λ k x y at bt. h (suc k) x y at bt) vs (and-right (matches_of q v) (row_matches qs vs) m))

pub covered-all : (n : ℕ) (ps qs : List Pat) → length ps ≡ length qs → length ps ≤ n → AreCovered n ps qs → CoverEach ps qs
covered-all n ps qs e l h = cover-all ps qs e (λ k p q at bt. h k p q (let w = slice_get_within ps k p at in omega (arith, w, l)) at bt)

-- Patterns ---------------------------------------------------------------------------------------

module _ (at bt : ℕ) (c d : ConRef) (ps qs : List Pat) (same : c.con ≡ d.con) (each : CoverEach ps qs) where
  of_layer : (l : V.Value-F Value) → is_con d.con (map matches_of qs) l ≡ true → is_con c.con (map matches_of ps) l ≡ true
  of_layer (V.Num m) e = absurd (false≢true e)
  of_layer (V.Con k vs) e = both (c.con == k) (all_pass (map matches_of ps) vs)
      (ap (λ (i : ℕ). i == k) same ∙ and-left (d.con == k) (all_pass (map matches_of qs) vs) e) (each vs (and-right (d.con == k) (all_pass (map matches_of qs) vs) e))

  cons-cover : (p q : Pat) → p ≡ Pats.Con at c ps → q ≡ Pats.Con bt d qs → Covers p q
  cons-cover p q is iq = λ v m. ap (λ (x : Pat). matches_of x v) is ∙ con-matches at c ps v ∙ of_layer (out-Value v) (at-con q bt d qs v iq m)

pub covers-where : (at bt : ℕ) (c d : ConRef) (ps qs : List Pat) → c.con ≡ d.con → (p q : Pat) → p ≡ Pats.Con at c ps → q ≡ Pats.Con bt d qs
    → (xs ys : List Pat) → xs ≡ ps → ys ≡ qs → (b : Bool) → OnTrue b (CoverEach xs ys) → OnTrue b (Covers p q)
covers-where at bt c d ps qs same p q is iq xs ys is_xs is_ys true h =
    cons-cover at bt c d ps qs same (subst (λ (zs : List Pat). CoverEach ps zs) is_ys (subst (λ (zs : List Pat). CoverEach zs ys) is_xs h)) p q is iq
covers-where at bt c d ps qs same p q is iq xs ys is_xs is_ys false h = tt
