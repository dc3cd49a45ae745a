-- What stands in the pieces of a word.
use Rattle.std.proofs.Common.{◌≡◌, ℕ, zero, suc, ◌+◌, ◌<◌, ◌≤◌, ◌⊎◌, inl, inr, List, [], ◌∷◌, refl, sym, subst, ap, arith}
use Rattle.std.specs.List.{flat_map, range_with_len, Contains, All}
use Rattle.std.proofs.lemmas.List.Elements.{All-nil, All-append, Contains-append_left, Contains-append_right, Contains-append_cases}

none_in : {X : Type 0} (y : X) → Contains [] y → ⊥
none_in y c = absurd (omega (arith, c.1))

-- what stands in the lists of bits from a on stands in that of one of them
pub in_bits : {A : Type 0} (f : ℕ → List A) (a n : ℕ) (y : A) → Contains (flat_map f (range_with_len a n)) y → (i : ℕ) × (a ≤ i) × (i < a + n) × Contains (f i) y
in_bits f a zero y c = absurd (none_in y c)
in_bits f a (suc n) y c = elim (Contains-append_cases (f a) (flat_map f (range_with_len (a + 1) n)) y c) [
  | inl h ↦ (a, omega arith, omega arith, h)
  | inr h ↦ let r = in_bits f (a + 1) n y h in (r.0, omega (arith, r.1), omega (arith, r.2), r.3)
]

pub first_or_later : (a i : ℕ) → a ≤ i → (a ≡ i) ⊎ (a < i)
first_or_later zero zero le = inl refl
first_or_later zero (suc i) le = inr (omega arith)
first_or_later (suc a) zero le = absurd (omega (arith, le))
first_or_later (suc a) (suc i) le = elim (first_or_later a i (omega (arith, le))) [ inl e ↦ inl (ap suc e) | inr h ↦ inr (omega (arith, h)) ]

pub bit_in : {A : Type 0} (f : ℕ → List A) (a n i : ℕ) (y : A) → a ≤ i → i < a + n → Contains (f i) y → Contains (flat_map f (range_with_len a n)) y
bit_in f a zero i y le lt c = absurd (omega (arith, le, lt))
bit_in f a (suc n) i y le lt c = elim (first_or_later a i le) [
  | inl e ↦ Contains-append_left (f a) (flat_map f (range_with_len (a + 1) n)) y (subst (λ j. Contains (f j) y) (sym e) c)
  | inr h ↦ Contains-append_right (f a) (flat_map f (range_with_len (a + 1) n)) y (bit_in f (a + 1) n i y (omega (arith, h)) (omega (arith, lt)) c)
]

-- what holds of each element of each of the lists
pub all_flat : {X A : Type 0} (P : A → Type 0) (f : X → List A) → ((x : X) → All P (f x)) → (xs : List X) → All P (flat_map f xs)
all_flat P f each [] = All-nil P
all_flat P f each (x ∷ xs) = All-append P (f x) (flat_map f xs) (each x) (all_flat P f each xs)
