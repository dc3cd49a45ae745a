-- Searches in graphs of numbers: marks that are set, lists that get one item more, and chains.
use Rattle.std.proofs.Common.{◌≡◌, ℕ, zero, suc, ◌≤◌, ◌⊎◌, inl, inr, List, [], ◌∷◌, ◌++◌, length, Bool, true, Some, None, refl, ap, subst, arith}
use Rattle.std.specs.Prelude.{slice_get, slice_set}
use Rattle.std.proofs.lemmas.Option.{same_Some}
use Rattle.rb_layout.specs.Cycles.{IsChain}
use Rattle.rb_layout.specs.Graphs.{mark_of}

-- Marks -------------------------------------------------------------------------------------------------

pub set-keeps : (ms : List Bool) (n y : ℕ) → mark_of ms y ≡ true → mark_of (slice_set ms n true) y ≡ true
set-keeps [] n y e = e
set-keeps (m ∷ ms) zero zero e = refl
set-keeps (m ∷ ms) zero (suc y) e = e
set-keeps (m ∷ ms) (suc n) zero e = e
set-keeps (m ∷ ms) (suc n) (suc y) e = set-keeps ms n y e

pub set-here : (ms : List Bool) (n : ℕ) (b : Bool) → slice_get ms n ≡ Some b → mark_of (slice_set ms n true) n ≡ true
set-here [] n b e = absurd cc
set-here (m ∷ ms) zero b e = refl
set-here (m ∷ ms) (suc n) b e = set-here ms n b e

pub set-only : (ms : List Bool) (n y : ℕ) → mark_of (slice_set ms n true) y ≡ true → (mark_of ms y ≡ true) ⊎ (n ≡ y)
set-only [] n y e = inl e
set-only (m ∷ ms) zero zero e = inr refl
set-only (m ∷ ms) zero (suc y) e = inl e
set-only (m ∷ ms) (suc n) zero e = inl e
set-only (m ∷ ms) (suc n) (suc y) e = elim (set-only ms n y e) [ inl h ↦ inl h | inr h ↦ inr (ap suc h) ]

pub set-length : (ms : List Bool) (n : ℕ) → length (slice_set ms n true) ≡ length ms
set-length [] n = refl
set-length (m ∷ ms) zero = refl
set-length (m ∷ ms) (suc n) = ap suc (set-length ms n)

pub none-past : (ms : List Bool) (n : ℕ) → slice_get ms n ≡ None → length ms ≤ n
none-past [] n e = omega arith
none-past (m ∷ ms) zero e = absurd cc
none-past (m ∷ ms) (suc n) e = let rest = none-past ms n e in omega (arith, rest)

pub get-left : {A : Type 0} (xs ys : List A) (k : ℕ) (x : A) → slice_get xs k ≡ Some x → slice_get (xs ++ ys) k ≡ Some x
get-left [] ys k x e = absurd cc
get-left (z ∷ xs) ys zero x e = e
get-left (z ∷ xs) ys (suc k) x e = get-left xs ys k x e

pub get-last : {A : Type 0} (xs : List A) (x : A) → slice_get (xs ++ x ∷ []) (length xs) ≡ Some x
get-last [] x = refl
get-last (z ∷ xs) x = get-last xs x

pub get-of : {A : Type 0} (xs : List A) (x : A) (k : ℕ) (y : A) → slice_get (xs ++ x ∷ []) k ≡ Some y → (slice_get xs k ≡ Some y) ⊎ ((k ≡ length xs) × (x ≡ y))
get-of [] x zero y e = inr (refl, same_Some x y e)
get-of [] x (suc k) y e = absurd cc
get-of (z ∷ xs) x zero y e = inl e
get-of (z ∷ xs) x (suc k) y e = elim (get-of xs x k y e) [ inl h ↦ inl h | inr h ↦ inr (ap suc h.0, h.1) ]

-- Chains ------------------------------------------------------------------------------------------------

module _ (R : ℕ → ℕ → Type 0) where
  abbrev pub Reaches : ℕ → List ℕ → ℕ → Type 0
  Reaches t [] x = x ≡ t
  Reaches t (b ∷ bs) x = (b ≡ t) × IsChain R t bs x

  pub chain-snoc : (t : ℕ) (bs : List ℕ) (x n : ℕ) → IsChain R t bs x → R x n → IsChain R t (bs ++ x ∷ []) n
  chain-snoc t [] x n chain r = (chain, r)
  chain-snoc t (b ∷ bs) x n chain r = (chain.0, chain-snoc b bs x n chain.1 r)

  pub reach-more : (t : ℕ) (bs : List ℕ) (x n : ℕ) → Reaches t bs x → R x n → Reaches t (bs ++ x ∷ []) n
  reach-more t [] x n e r = (e, subst (λ y. R y n) e r)
  reach-more t (b ∷ bs) x n h r = (h.0, chain-snoc t bs x n h.1 r)
