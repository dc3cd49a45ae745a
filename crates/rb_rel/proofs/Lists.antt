-- Items of lists by number.
use Rattle.std.proofs.Common.{◌≡◌, ℕ, zero, suc, ◌+◌, ◌<◌, length, ap, ◌∙◌, arith, ◌⊎◌, inl, inr, map, List, [], ◌∷◌, ◌++◌, Bool, true, false, Some, refl, sym}
use Rattle.std.specs.Prelude.{slice_get, ◌&&◌}
use Rattle.std.proofs.lemmas.Option.{same_Some}

module _ {A : Type 0} where
  pub get-append : (xs ys : List A) (k : ℕ) (x : A) → slice_get (xs ++ ys) k ≡ Some x
      → (slice_get xs k ≡ Some x) ⊎ ((j : ℕ) × (slice_get ys j ≡ Some x))
  get-append [] ys k x e = inr (k, e)
  get-append (y ∷ xs) ys zero x e = inl e
  get-append (y ∷ xs) ys (suc k) x e = get-append xs ys k x e

  pub get-left : (xs ys : List A) (k : ℕ) (x : A) → slice_get xs k ≡ Some x → slice_get (xs ++ ys) k ≡ Some x
  get-left [] ys k x e = absurd cc
  get-left (y ∷ xs) ys zero x e = e
  get-left (y ∷ xs) ys (suc k) x e = get-left xs ys k x e

  pub get-right : (xs ys : List A) (k : ℕ) (x : A) → slice_get ys k ≡ Some x → (j : ℕ) × (slice_get (xs ++ ys) j ≡ Some x)
  get-right [] ys k x e = (k, e)
  get-right (y ∷ xs) ys k x e = let h = get-right xs ys k x e in (suc h.0, h.1)

module _ {A : Type 0} where
  pub get-append-at : (xs ys : List A) (k : ℕ) (x : A) → slice_get (xs ++ ys) k ≡ Some x
      → (slice_get xs k ≡ Some x) ⊎ ((j : ℕ) × (slice_get ys j ≡ Some x) × (k ≡ length xs + j))
  get-append-at [] ys k x e = let z : k ≡ 0 + k = omega arith in inr (k, e, z)
  get-append-at (y ∷ xs) ys zero x e = inl e
  get-append-at (y ∷ xs) ys (suc k) x e = elim (get-append-at xs ys k x e) [
    | inl h ↦ inl h
    | inr h ↦ let z : suc k ≡ suc (length xs) + h.0 = omega (arith, h.2) in inr (h.0, h.1, z)
  ]

  pub get-behind : (xs ys : List A) (j : ℕ) (x : A) → slice_get ys j ≡ Some x → slice_get (xs ++ ys) (length xs + j) ≡ Some x
  get-behind [] ys j x e = let z : 0 + j ≡ j = omega arith in ap (slice_get ys) z ∙ e
  get-behind (y ∷ xs) ys j x e = let z : suc (length xs) + j ≡ suc (length xs + j) = omega arith in ap (slice_get (y ∷ (xs ++ ys))) z ∙ get-behind xs ys j x e

  pub got : (xs : List A) (k : ℕ) → k < length xs → (x : A) × (slice_get xs k ≡ Some x)
  got [] k lt = absurd (omega (arith, lt))
  got (y ∷ xs) zero lt = (y, refl)
  got (y ∷ xs) (suc k) lt = got xs k (omega (arith, lt))

pub get-map : {A B : Type 0} (f : A → B) (xs : List A) (k : ℕ) (y : B) → slice_get (map f xs) k ≡ Some y
    → (x : A) × (slice_get xs k ≡ Some x) × (y ≡ f x)
get-map f [] k y e = absurd cc
get-map f (x ∷ xs) zero y e = (x, refl, sym (same_Some _ _ e))
get-map f (x ∷ xs) (suc k) y e = get-map f xs k y e

pub get-mapped : {A B : Type 0} (f : A → B) (xs : List A) (k : ℕ) (x : A) → slice_get xs k ≡ Some x → slice_get (map f xs) k ≡ Some (f x)
get-mapped f [] k x e = absurd cc
get-mapped f (y ∷ xs) zero x e = let s = same_Some y x e in cc
get-mapped f (y ∷ xs) (suc k) x e = get-mapped f xs k x e

pub and_true : (a b : Bool) → a ≡ true → b ≡ true → (a && b) ≡ true
and_true true b x y = y
and_true false b x y = absurd cc
