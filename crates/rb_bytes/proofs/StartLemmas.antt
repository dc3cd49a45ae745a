-- Blocks by the addresses at which they begin.
use Rattle.std.proofs.Common.{◌≡◌, ◌≢◌, ℕ, zero, suc, ◌+◌, ◌<◌, ◌≤◌, List, [], ◌∷◌, ◌++◌, length, set, Option, Some, None, inl, inr, refl, ap, ◌∙◌, arith, eq-eqb}
use Rattle.std.specs.Prelude.{find, nat_le}
use Rattle.std.proofs.lemmas.Bool.Decides.{leb_tells}
use Rattle.std.proofs.lemmas.Option.{same_Some}
use Rattle.rb_bytes.specs.Memory.{byte_at, size_at}
use Rattle.rb_bytes.specs.Starts.{blocks_from}
use Rattle.rb_bytes.proofs.BlockLemmas.{eqb_other}

-- no block of the addresses from one on begins below it
size_at_below : (starts : List (Option ℕ)) (at base : ℕ) → base < at → size_at (blocks_from starts at) base ≡ None
size_at_below [] at base lt = refl
size_at_below (None ∷ starts) at base lt = size_at_below starts (at + 1) base (omega arith)
size_at_below (Some size ∷ starts) at base lt =
    let ne : at ≢ base = omega arith in
    rw (eqb_other at base ne) (size_at_below starts (at + 1) base (omega arith))

size_at_from : (starts : List (Option ℕ)) (at i : ℕ) → size_at (blocks_from starts at) (at + i) ≡ byte_at starts i
size_at_from [] at i = refl
size_at_from (None ∷ starts) at zero = size_at_below starts (at + 1) (at + 0) (omega arith)
size_at_from (None ∷ starts) at (suc i) =
    let e : at + suc i ≡ at + 1 + i = omega arith in rw e (size_at_from starts (at + 1) i)
size_at_from (Some size ∷ starts) at zero =
    let e : at ≡ at + 0 = omega arith in rw (eq-eqb at (at + 0) e) refl
size_at_from (Some size ∷ starts) at (suc i) =
    let ne : at ≢ at + suc i = omega arith in
    let e : at + suc i ≡ at + 1 + i = omega arith in rw (eqb_other at (at + suc i) ne, e) (size_at_from starts (at + 1) i)

pub size_at-blocks_from : (starts : List (Option ℕ)) (base : ℕ) → size_at (blocks_from starts 0) base ≡ byte_at starts base
size_at-blocks_from starts base = let e : base ≡ 0 + base = omega arith in ap (size_at (blocks_from starts 0)) e ∙ size_at_from starts 0 base

pub blocks_none : (starts : List (Option ℕ)) (at : ℕ) → ((j : ℕ) → byte_at starts j ≡ None) → blocks_from starts at ≡ []
blocks_none [] at h = refl
blocks_none (None ∷ starts) at h = blocks_none starts (at + 1) (λ j. h (suc j))
blocks_none (Some size ∷ starts) at h = let none = h 0 in cc

-- a block behind all others
pub blocks_from-set : (starts : List (Option ℕ)) (at i s : ℕ) → i < length starts → ((j : ℕ) → i ≤ j → byte_at starts j ≡ None) → blocks_from (set starts i (Some s)) at ≡ blocks_from starts at ++ (at + i, s) ∷ []
blocks_from-set [] at i s lt h = absurd (omega arith)
blocks_from-set (None ∷ starts) at zero s lt h =
    let none = blocks_none starts (at + 1) (λ j. h (suc j) (omega arith)) in
    let e : at ≡ at + 0 = omega arith in
    rw none (ap (λ n. (n, s) ∷ []) e)
blocks_from-set (Some size ∷ starts) at zero s lt h = let none = h 0 (omega arith) in cc
blocks_from-set (None ∷ starts) at (suc i) s lt h =
    let e : at + 1 + i ≡ at + suc i = omega arith in
    blocks_from-set starts (at + 1) i s (omega arith) (λ j le. h (suc j) (omega arith)) ∙ ap (λ n. blocks_from starts (at + 1) ++ (n, s) ∷ []) e
blocks_from-set (Some size ∷ starts) at (suc i) s lt h =
    let e : at + 1 + i ≡ at + suc i = omega arith in
    ap (λ bs. (at, size) ∷ bs) (blocks_from-set starts (at + 1) i s (omega arith) (λ j le. h (suc j) (omega arith)) ∙ ap (λ n. blocks_from starts (at + 1) ++ (n, s) ∷ []) e)

-- ---- the first block from an address on
pub find_none : (starts : List (Option ℕ)) (at address : ℕ) → ((i : ℕ) → address ≤ at + i → byte_at starts i ≡ None) → find (λ b. nat_le address b.0) (blocks_from starts at) ≡ None
find_none [] at address h = refl
find_none (None ∷ starts) at address h = find_none starts (at + 1) address (λ i le. h (suc i) (omega arith))
find_none (Some size ∷ starts) at address h =
    elim (leb_tells address at) [
      | inl t ↦ let none = h 0 (omega (arith, t.1)) in cc
      | inr f ↦ rw f.0 (find_none starts (at + 1) address (λ i le. h (suc i) (omega arith)))
    ]

find_some_from : (starts : List (Option ℕ)) (at address i size : ℕ) → address ≤ at + i → byte_at starts i ≡ Some size → ((j : ℕ) → j < i → address ≤ at + j → byte_at starts j ≡ None)
    → find (λ b. nat_le address b.0) (blocks_from starts at) ≡ Some (at + i, size)
find_some_from [] at address i size le is h = cc
find_some_from (None ∷ starts) at address zero size le is h = cc
find_some_from (None ∷ starts) at address (suc i) size le is h =
    let e : at + 1 + i ≡ at + suc i = omega arith in
    find_some_from starts (at + 1) address i size (omega arith) is (λ j lt from. h (suc j) (omega arith) (omega arith)) ∙ ap (λ n. Some (n, size)) e
find_some_from (Some first ∷ starts) at address zero size le is h =
    let e : at ≡ at + 0 = omega arith in
    let same : first ≡ size = same_Some first size is in
    elim (leb_tells address at) [
      | inl t ↦ rw t.0 (ap (λ n. Some (n, first)) e ∙ ap (λ n. Some (at + 0, n)) same)
      | inr f ↦ absurd (omega (arith, f.1))
    ]
find_some_from (Some first ∷ starts) at address (suc i) size le is h =
    elim (leb_tells address at) [
      | inl t ↦ let none = h 0 (omega arith) (omega (arith, t.1)) in cc
      | inr f ↦
          let e : at + 1 + i ≡ at + suc i = omega arith in
          rw f.0 (find_some_from starts (at + 1) address i size (omega arith) is (λ j lt from. h (suc j) (omega arith) (omega arith)) ∙ ap (λ n. Some (n, size)) e)
    ]

pub find_some : (starts : List (Option ℕ)) (address at size : ℕ) → address ≤ at → byte_at starts at ≡ Some size → ((j : ℕ) → j < at → address ≤ j → byte_at starts j ≡ None)
    → find (λ b. nat_le address b.0) (blocks_from starts 0) ≡ Some (at, size)
find_some starts address at size le is h =
    let e : 0 + at ≡ at = omega arith in
    find_some_from starts 0 address at size (omega arith) is (λ j lt from. h j lt (omega arith)) ∙ ap (λ n. Some (n, size)) e
