-- Marks: what is marked stays so, and the variables of parts are those of the whole.
use Rattle.std.proofs.Common.{◌≡◌, ℕ, zero, suc, ◌+◌, ◌-◌, ◌<◌, ◌≤◌, inl, inr, Bool, true, false, List, [], ◌∷◌, ◌++◌, map, take, length, refl, sym, subst, ap, ◌∙◌, arith}
use Rattle.std.proofs.lemmas.Bool.Decides.{nat_tests}
use Rattle.std.proofs.lemmas.Grind.{flat_map-append}
use Rattle.std.proofs.lemmas.List.{map-append}
use Rattle.std.proofs.lemmas.List.Elements.{Contains-append_cases}
use Rattle.std.specs.Prelude.{if◌then◌else◌, nat_lt, slice_get, slice_set, unwrap_or}
use Rattle.std.specs.List.{flat_map}
use Rattle.rb_compile.specs.declared.used.Marks.{Marks}
use Rattle.rb_compile.specs.inner.Used.{AreKept, MarksMore, is_kept}

-- one more mark

set_more : (l : List Bool) (i j : ℕ) → unwrap_or (slice_get l j) true ≡ true → unwrap_or (slice_get (slice_set l i true) j) true ≡ true
set_more [] i j h = h
set_more (x ∷ l) zero zero h = refl
set_more (x ∷ l) zero (suc j) h = h
set_more (x ∷ l) (suc i) zero h = h
set_more (x ∷ l) (suc i) (suc j) h = set_more l i j h

set_here : (l : List Bool) (i : ℕ) → unwrap_or (slice_get (slice_set l i true) i) true ≡ true
set_here [] i = refl
set_here (x ∷ l) zero = refl
set_here (x ∷ l) (suc i) = set_here l i

beyond : (l : List Bool) (i : ℕ) → length l ≤ i → unwrap_or (slice_get l i) true ≡ true
beyond [] i le = refl
beyond (x ∷ l) zero le = absurd (omega (arith, le))
beyond (x ∷ l) (suc i) le = beyond l i (omega (arith, le))

either : (b : Bool) (u : Bool) → u ≡ true → (if b then true else u) ≡ true
either true u h = refl
either false u h = h

pub marked_more : (m : Marks) (place : ℕ) → MarksMore m (record { first = m.first; used = slice_set m.used place true })
marked_more m place x h = go (nat_lt x m.first) h
  where
    go : (b : Bool) → (if b then true else unwrap_or (slice_get m.used (x - m.first)) true) ≡ true → (if b then true else unwrap_or (slice_get (slice_set m.used place true) (x - m.first)) true) ≡ true
    go true k = refl
    go false k = set_more m.used place (x - m.first) k

pub marked_here : (m : Marks) (x : ℕ) → is_kept (record { first = m.first; used = slice_set m.used (x - m.first) true }) x ≡ true
marked_here m x = either (nat_lt x m.first) _ (set_here m.used (x - m.first))

-- no mark is kept for it
pub kept_below : (m : Marks) (x : ℕ) → x < m.first → is_kept m x ≡ true
kept_below m x lt = let test : nat_lt x m.first ≡ true = grind (arith, nat_tests) in ap (λ b. if b then true else unwrap_or (slice_get m.used (x - m.first)) true) test

pub kept_beyond : (m : Marks) (x : ℕ) → length m.used ≤ x - m.first → is_kept m x ≡ true
kept_beyond m x le = either (nat_lt x m.first) _ (beyond m.used (x - m.first) le)

-- lists of variables

pub kept_none : (m : Marks) → AreKept [] m
kept_none m x i = absurd (let lt = i.1 in omega (arith, lt))

pub kept_more : (xs : List ℕ) (m m' : Marks) → AreKept xs m → MarksMore m m' → AreKept xs m'
kept_more xs m m' h more = λ x i. more x (h x i)

pub kept_both : (xs ys : List ℕ) (m : Marks) → AreKept xs m → AreKept ys m → AreKept (xs ++ ys) m
kept_both xs ys m h k = λ x i. elim (Contains-append_cases xs ys x i) [ inl a ↦ h x a | inr b ↦ k x b ]

pub kept_next : {A : Type 0} (f : A → List ℕ) (xs : List A) (i : ℕ) (x : A) (m m' : Marks) → take (i + 1) xs ≡ take i xs ++ x ∷ []
    → AreKept (flat_map (λ ys. ys) (map f (take i xs))) m → MarksMore m m' → AreKept (f x) m' → AreKept (flat_map (λ ys. ys) (map f (take (i + 1) xs))) m'
kept_next {A = A} f xs i x m m' next h more here =
    let split : flat_map (λ ys. ys) (map f (take (i + 1) xs)) ≡ flat_map (λ ys. ys) (map f (take i xs)) ++ (f x ++ []) = ap (λ (l : List A). flat_map (λ ys. ys) (map f l)) next ∙ ap (flat_map (λ ys. ys)) (map-append f (take i xs) (x ∷ [])) ∙ flat_map-append (λ ys. ys) (map f (take i xs)) (f x ∷ []) in
    subst (λ l. AreKept l m') (sym split) (kept_both _ (f x ++ []) m' (kept_more _ m m' h more) (kept_both (f x) [] m' here (kept_none m')))
