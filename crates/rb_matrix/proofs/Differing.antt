-- Patterns that no value matches both, and rows that stand for patterns.
use Rattle.std.proofs.Common.{◌≡◌, ℕ, zero, suc, List, [], ◌∷◌, ◌++◌, map, take, Bool, true, false, ◌&&◌, ◌||◌, ◌==◌, Some, refl, sym, ap, ◌∙◌, subst, arith, ◌⊎◌, inl, inr}
use Rattle.std.specs.Prelude.{slice_get, Contains}
use Rattle.std.specs.Bool.{OnTrue}
use Rattle.std.proofs.Math.Bool.{and-true, or-false, or_assoc}
use Rattle.std.proofs.lemmas.Bool.{eqb-true, false≢true}
use Rattle.std.proofs.lemmas.Option.{same_Some}
use Rattle.std.proofs.lemmas.List.Elements.{Contains-push_cases}
use Rattle.rb_core.specs.declared.value.Value.{Value, out-Value}
use Rattle.rb_core.specs.declared.value.Value.TheOpen as V
use Rattle.rb_core.specs.declared.types.ConRef.{ConRef}
use Rattle.rb_core.specs.declared.pattern.Pat.{Pat}
use Rattle.rb_core.specs.declared.pattern.Pat as Pats
use Rattle.rb_core.specs.Matching.{all_pass, is_con, matches_of, option_matches, clause_matches}
use Rattle.rb_matrix.specs.inner.OneColumn.{any_matches}
use Rattle.rb_matrix.specs.Rows.{row_matches, any_row}
use Rattle.rb_matrix.specs.Apart.{PatternsAreApart}
use Rattle.rb_matrix.specs.inner.Against.{HaveApart, AreRowsNear, StandFor}
use Rattle.rb_matrix.proofs.Vectors.{and-left, and-right, con-matches}

-- Fields -----------------------------------------------------------------------------------------

pub pass-at : (ps : List Pat) (vs : List Value) (i : ℕ) (p : Pat) → all_pass (map matches_of ps) vs ≡ true → slice_get ps i ≡ Some p
    → (v : Value) × (slice_get vs i ≡ Some v) × (matches_of p v ≡ true)
pass-at [] vs i p h e = absurd cc
pass-at (q ∷ ps) [] i p h e = absurd (false≢true h)
pass-at (q ∷ ps) (v ∷ vs) zero p h e =
    (v, refl, ap (λ (x : Pat). matches_of x v) (sym (same_Some q p e)) ∙ and-left (matches_of q v) (all_pass (map matches_of ps) vs) h)
pass-at (q ∷ ps) (v ∷ vs) (suc i) p h e = pass-at ps vs i p (and-right (matches_of q v) (all_pass (map matches_of ps) vs) h) e

fields_apart : (ps qs : List Pat) (vs : List Value) → HaveApart ps qs → all_pass (map matches_of ps) vs ≡ true → all_pass (map matches_of qs) vs ≡ true → ⊥
fields_apart ps qs vs d h g =
    let a = pass-at ps vs d.0 d.1 h d.3 in
    let b = pass-at qs vs d.0 d.2 g d.4 in
    let same : a.0 ≡ b.0 = same_Some a.0 b.0 (sym a.1 ∙ b.1) in d.5 b.0 (ap (matches_of d.1) (sym same) ∙ a.2) b.2

-- Patterns ---------------------------------------------------------------------------------------

pub at-con : (p : Pat) (at : ℕ) (c : ConRef) (ps : List Pat) (v : Value) → p ≡ Pats.Con at c ps → matches_of p v ≡ true → is_con c.con (map matches_of ps) (out-Value v) ≡ true
at-con p at c ps v is m = sym (con-matches at c ps v) ∙ ap (λ (x : Pat). matches_of x v) (sym is) ∙ m

module _ (at bt : ℕ) (c d : ConRef) (ps qs : List Pat) where
  of_layer : (l : V.Value-F Value) → is_con c.con (map matches_of ps) l ≡ true → is_con d.con (map matches_of qs) l ≡ true → (c.con ≡ d.con → HaveApart ps qs) → ⊥
  of_layer (V.Num m) e f rest = absurd (false≢true e)
  of_layer (V.Con k vs) e f rest =
      let same : c.con ≡ d.con = eqb-true c.con k (and-left (c.con == k) (all_pass (map matches_of ps) vs) e) ∙ sym (eqb-true d.con k (and-left (d.con == k) (all_pass (map matches_of qs) vs) f)) in
      fields_apart ps qs vs (rest same) (and-right (c.con == k) (all_pass (map matches_of ps) vs) e) (and-right (d.con == k) (all_pass (map matches_of qs) vs) f)

  pub cons-apart : (p q : Pat) → p ≡ Pats.Con at c ps → q ≡ Pats.Con bt d qs → (c.con ≡ d.con → HaveApart ps qs) → PatternsAreApart p q
  cons-apart p q is iq rest = λ v m w. of_layer (out-Value v) (at-con p at c ps v is m) (at-con q bt d qs v iq w) rest

  pub apart-where : (p q : Pat) → p ≡ Pats.Con at c ps → q ≡ Pats.Con bt d qs → (xs ys : List Pat) → xs ≡ ps → ys ≡ qs → (b : Bool) → OnTrue b (HaveApart xs ys) → OnTrue b (PatternsAreApart p q)
  apart-where p q is iq xs ys is_xs is_ys true h =
      cons-apart p q is iq (λ e. subst (λ (zs : List Pat). HaveApart ps zs) is_ys (subst (λ (zs : List Pat). HaveApart zs ys) is_xs h))
  apart-where p q is iq xs ys is_xs is_ys false h = tt

-- Rows -------------------------------------------------------------------------------------------

or-true : (b : Bool) → (b || true) ≡ true
or-true true = refl
or-true false = refl

any_row-append : (rows : List (List Pat)) (q : Pat) (v : Value) → any_row (rows ++ (q ∷ []) ∷ []) (v ∷ []) ≡ (any_row rows (v ∷ []) || matches_of q v)
any_row-append [] q v = or-false (matches_of q v && true) ∙ and-true (matches_of q v)
any_row-append (r ∷ rows) q v = ap (λ b. row_matches r (v ∷ []) || b) (any_row-append rows q v) ∙ sym (or_assoc (row_matches r (v ∷ [])) (any_row rows (v ∷ [])) (matches_of q v))

pub take-suc : (ps : List Pat) (i : ℕ) (p : Pat) → slice_get ps i ≡ Some p → take (suc i) ps ≡ take i ps ++ p ∷ []
take-suc [] i p at = cc
take-suc (q ∷ ps) zero p at = ap (λ r. r ∷ []) (same_Some q p at)
take-suc (q ∷ ps) (suc i) p at = ap (λ rest. q ∷ rest) (take-suc ps i p at)

-- where some pattern matches, one with a number does
pub any-at : (ps : List Pat) (j : ℕ) (q : Pat) (v : Value) → slice_get ps j ≡ Some q → matches_of q v ≡ true → any_matches ps v ≡ true
any-at [] j q v at m = absurd cc
any-at (p ∷ ps) zero q v at m = ap (λ b. b || any_matches ps v) (ap (λ (x : Pat). matches_of x v) (same_Some p q at) ∙ m)
any-at (p ∷ ps) (suc j) q v at m = ap (λ b. matches_of p v || b) (any-at ps j q v at m) ∙ or-true (matches_of p v)

some-at : (ps : List Pat) (v : Value) → any_matches ps v ≡ true → (j : ℕ) × (q : Pat) × (slice_get ps j ≡ Some q) × (matches_of q v ≡ true)
some-at [] v e = absurd (false≢true e)
some-at (p ∷ ps) v e = by (matches_of p v) refl e (λ h. some-at ps v h)
  where
    by : (b : Bool) → matches_of p v ≡ b → (b || any_matches ps v) ≡ true
        → (any_matches ps v ≡ true → (j : ℕ) × (q : Pat) × (slice_get ps j ≡ Some q) × (matches_of q v ≡ true))
        → (j : ℕ) × (q : Pat) × (slice_get (p ∷ ps) j ≡ Some q) × (matches_of q v ≡ true)
    by true is h rest = (0, p, refl, is)
    by false is h rest = let a = rest h in (suc a.0, a.1, a.2, a.3)

-- no row yet
pub rows-none : (p : Pat) (ps : List Pat) → AreRowsNear p ps [] []
rows-none p ps = record {
  among = λ v e. absurd (false≢true e);
  each = λ v m j c e. absurd (let lt = c.1 in omega (arith, lt));
}

-- one more number, of which no row is kept
pub rows-same : (p : Pat) (ps : List Pat) (js more : List ℕ) (rows : List (List Pat)) (j : ℕ) → more ≡ js ++ j ∷ [] → AreRowsNear p ps js rows
    → ((v : Value) → matches_of p v ≡ true → clause_matches ps j v ≡ true → ⊥) → AreRowsNear p ps more rows
rows-same p ps js more rows j is h never = record {
  among = h.among;
  each = λ v m k c e. elim (Contains-push_cases js j k (subst (λ (l : List ℕ). Contains l k) is c)) [
    | inl l ↦ h.each v m k l e
    | inr same ↦ absurd (never v m (ap (λ i. clause_matches ps i v) same ∙ e))
  ];
}

-- one more, of which the row is kept
pub rows-more : (p : Pat) (ps : List Pat) (js more : List ℕ) (rows kept : List (List Pat)) (j : ℕ) (q : Pat) → more ≡ js ++ j ∷ [] → kept ≡ rows ++ (q ∷ []) ∷ []
    → slice_get ps j ≡ Some q → AreRowsNear p ps js rows → AreRowsNear p ps more kept
rows-more p ps js more rows kept j q is is_kept at h = record {
  among = λ v e. by v (any_row rows (v ∷ [])) refl (sym (now v) ∙ e);
  each = λ v m k c e. now v ∙ elim (Contains-push_cases js j k (subst (λ (l : List ℕ). Contains l k) is c)) [
    | inl l ↦ ap (λ b. b || matches_of q v) (h.each v m k l e)
    | inr same ↦ ap (λ b. any_row rows (v ∷ []) || b) (sym (ap (λ o. option_matches o v) (ap (slice_get ps) (sym same) ∙ at)) ∙ e) ∙ or-true (any_row rows (v ∷ []))
  ];
}
  where
    now : (v : Value) → any_row kept (v ∷ []) ≡ (any_row rows (v ∷ []) || matches_of q v)
    now v = ap (λ (l : List (List Pat)). any_row l (v ∷ [])) is_kept ∙ any_row-append rows q v

    by : (v : Value) (b : Bool) → any_row rows (v ∷ []) ≡ b → (b || matches_of q v) ≡ true → any_matches ps v ≡ true
    by v true e m = h.among v e
    by v false e m = any-at ps j q v at m

same-bool : (a b : Bool) → (a ≡ true → b ≡ true) → (b ≡ true → a ≡ true) → a ≡ b
same-bool true b f g = sym (f refl)
same-bool false true f g = g refl
same-bool false false f g = refl

pub rows-stand : (p : Pat) (ps : List Pat) (js : List ℕ) (rows : List (List Pat)) → AreRowsNear p ps js rows
    → ((j : ℕ) (q : Pat) → slice_get ps j ≡ Some q → Contains js j ⊎ PatternsAreApart q p) → StandFor p ps rows
rows-stand p ps js rows h near = λ v m. same-bool (any_row rows (v ∷ [])) (any_matches ps v) (h.among v) (λ e.
    let a = some-at ps v e in
    elim (near a.0 a.1 a.2) [
      | inl c ↦ h.each v m a.0 c (ap (λ o. option_matches o v) a.2 ∙ a.3)
      | inr apart ↦ absurd (apart v a.3 m)
    ])
