-- Unreached patterns, one more at a time.
use Rattle.std.proofs.Common.{◌≡◌, ℕ, zero, suc, ◌+◌, ◌<◌, List, [], ◌∷◌, ◌++◌, length, get_or, refl, sym, ap, ◌∙◌, arith, subst, ◌⊎◌, inl, inr, Some}
use Rattle.std.specs.Prelude.{Contains}
use Rattle.std.specs.List.Sorted.{IsStrictlyIncreasing}
use Rattle.std.proofs.lemmas.Bool.{cases_lt}
use Rattle.std.proofs.lemmas.List.{length-append}
use Rattle.std.proofs.Math.ListN.{get_or-append}
use Rattle.std.proofs.Math.Seq.{get_or-append_seam}
use Rattle.std.proofs.lemmas.List.Elements.{Contains-append_left, Contains-append_right, Contains-append_cases}
use Rattle.rb_core.specs.declared.types.DataDecl.{DataDecl}
use Rattle.rb_core.specs.declared.types.Ty.{Ty}
use Rattle.rb_core.specs.declared.pattern.Pat.{Pat}
use Rattle.rb_core.specs.Matching.{IsUnreached}
use Rattle.rb_matrix.specs.Exhaust.{IsReached, AreUnreachedOf}

-- below one more: below, or that one
below-more : (i n : ℕ) → i < n + 1 → (i < n) ⊎ (i ≡ n)
below-more i n lt = elim (cases_lt i n) [ inl l ↦ inl l | inr g ↦ inr (omega arith) ]

only-one : (n i : ℕ) → Contains (n ∷ []) i → n ≡ i
only-one n i h = by h.0 h.1 h.2
  where
    by : (k : ℕ) → k < 1 → get_or (n ∷ []) k i ≡ i → n ≡ i
    by zero lt e = e
    by (suc k) lt e = absurd (omega (arith, lt))

contains-one : (n : ℕ) → Contains (n ∷ []) n
contains-one n = (0, omega arith, refl)

-- what stands where nothing does is of no matter
any-default : (xs : List ℕ) (k d e : ℕ) → k < length xs → get_or xs k d ≡ get_or xs k e
any-default [] k d e lt = absurd (omega (arith, lt))
any-default (x ∷ xs) zero d e lt = refl
any-default (x ∷ xs) (suc k) d e lt = any-default xs k d e (omega (arith, lt))

increasing-more : (xs : List ℕ) (n : ℕ) → IsStrictlyIncreasing xs → ((i : ℕ) → Contains xs i → i < n) → IsStrictlyIncreasing (xs ++ n ∷ [])
increasing-more xs n up below k lt =
    let l = length-append xs (n ∷ []) in
    let here : k < length xs = omega (arith, lt, l) in
    let low : get_or (xs ++ n ∷ []) k 0 ≡ get_or xs k 0 = get_or-append xs (n ∷ []) 0 k here in
    elim (cases_lt (k + 1) (length xs)) [
      | inl within ↦
          let next : get_or (xs ++ n ∷ []) (k + 1) 0 ≡ get_or xs (k + 1) 0 = get_or-append xs (n ∷ []) 0 (k + 1) within in
          let rises = up k within in omega (arith, low, next, rises)
      | inr past ↦
          let last : k + 1 ≡ length xs = omega (arith, past, here) in
          let seam : get_or (xs ++ n ∷ []) (k + 1) 0 ≡ n = ap (λ i. get_or (xs ++ n ∷ []) i 0) last ∙ get_or-append_seam xs n [] 0 in
          let less : get_or xs k 0 < n = below (get_or xs k 0) (k, here, any-default xs k (get_or xs k 0) 0 here) in omega (arith, low, seam, less)
    ]

module _ (types : List DataDecl) (ty : Ty) (ps : List Pat) (n : ℕ) (xs : List ℕ) (h : AreUnreachedOf types ty ps n xs) where
  pub reached-more : IsReached types ty ps n → AreUnreachedOf types ty ps (n + 1) xs
  reached-more r = record {
    ascending = h.ascending;
    within = λ i c. let b = h.within i c in omega (arith, b);
    unreached = h.unreached;
    every = λ i lt un. elim (below-more i n lt) [
      | inl l ↦ h.every i l un
      | inr e ↦ absurd (un r.value r.typed (r.chosen ∙ ap (λ k. Some k) (sym e)))
    ];
    others = λ i lt not. elim (below-more i n lt) [
      | inl l ↦ h.others i l not
      | inr e ↦ subst (IsReached types ty ps) (sym e) r
    ];
  }

  pub unreached-more : (ys : List ℕ) → ys ≡ xs ++ n ∷ [] → IsUnreached types ty ps n → AreUnreachedOf types ty ps (n + 1) ys
  unreached-more ys e un = subst (AreUnreachedOf types ty ps (n + 1)) (sym e) (record {
    ascending = increasing-more xs n h.ascending h.within;
    within = λ i c. elim (Contains-append_cases xs (n ∷ []) i c) [
      | inl l ↦ let b = h.within i l in omega (arith, b)
      | inr r ↦ let b = only-one n i r in omega (arith, b)
    ];
    unreached = λ i c. elim (Contains-append_cases xs (n ∷ []) i c) [
      | inl l ↦ h.unreached i l
      | inr r ↦ subst (IsUnreached types ty ps) (only-one n i r) un
    ];
    every = λ i lt u. elim (below-more i n lt) [
      | inl l ↦ Contains-append_left xs (n ∷ []) i (h.every i l u)
      | inr e ↦ Contains-append_right xs (n ∷ []) i (subst (Contains (n ∷ [])) (sym e) (contains-one n))
    ];
    others = λ i lt not. elim (below-more i n lt) [
      | inl l ↦ h.others i l (λ c. not (Contains-append_left xs (n ∷ []) i c))
      | inr e ↦ absurd (not (Contains-append_right xs (n ∷ []) i (subst (Contains (n ∷ [])) (sym e) (contains-one n))))
    ];
  })
