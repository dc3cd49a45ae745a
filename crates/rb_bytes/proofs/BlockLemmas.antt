-- Lists of blocks: where a block ends, that two blocks have no byte in common, and one more block at the end.
use Rattle.std.proofs.Common.{◌≡◌, ◌≢◌, ℕ, ◌+◌, ◌-◌, ◌*◌, ◌/◌, ◌%◌, ◌<◌, ◌≤◌, true, false, eqb, List, [], ◌∷◌, ◌++◌, length, inl, inr, Option, Some, None, refl, sym, ◌∙◌, arith, eq-eqb}
use Rattle.std.proofs.lemmas.Bool.{false≢true}
use Rattle.std.proofs.lemmas.Bool.Decides.{eqb_tells, leb_tells}
use Rattle.std.proofs.lemmas.Option.{same_Some}
use Rattle.std.proofs.Math.Nat.{div-lt_iff_lt-mul, mul-le-mul_right}
use Rattle.rb_bytes.specs.Laws.{IsLeastMultiple}
use Rattle.rb_bytes.specs.Memory.{AreBlocks, size_at, lies_within, least_multiple}

pub eqb_other : (m n : ℕ) → m ≢ n → eqb m n ≡ false
eqb_other m n ne = elim (eqb_tells m n) [ inl h ↦ absurd (ne h.1) | inr h ↦ h.0 ]

pub AreBlocks_le : (blocks : List (ℕ × ℕ)) (from to : ℕ) → AreBlocks from blocks to → from ≤ to
AreBlocks_le [] from to are = are
AreBlocks_le (b ∷ blocks) from to are = let h = AreBlocks_le blocks (b.0 + b.1) to are.2 in omega arith

-- each block has a byte, so there are no more of them than bytes
pub AreBlocks_length : (blocks : List (ℕ × ℕ)) (from to : ℕ) → AreBlocks from blocks to → from + length blocks ≤ to
AreBlocks_length [] from to are = omega arith
AreBlocks_length (b ∷ blocks) from to are = let h = AreBlocks_length blocks (b.0 + b.1) to are.2 in omega arith

pub AreBlocks_push : (blocks : List (ℕ × ℕ)) (from to a s : ℕ) → AreBlocks from blocks to → to ≤ a → 0 < s → AreBlocks from (blocks ++ (a, s) ∷ []) (a + s)
AreBlocks_push [] from to a s are le pos = (omega arith, pos, omega arith)
AreBlocks_push (b ∷ blocks) from to a s are le pos = (are.0, are.1, AreBlocks_push blocks (b.0 + b.1) to a s are.2 le pos)

-- a block begins where the blocks begin or later, has a byte, and ends where they end or before
pub block_bounds : (blocks : List (ℕ × ℕ)) (base size from to : ℕ) → AreBlocks from blocks to → size_at blocks base ≡ Some size → (from ≤ base) × (0 < size) × (base + size ≤ to)
block_bounds [] base size from to are e = cc
block_bounds (b ∷ blocks) base size from to are e =
    elim (eqb_tells b.0 base) [
      | inl h ↦
          let same : b.1 ≡ size = same_Some b.1 size (rw h.0 at e) in
          let le = AreBlocks_le blocks (b.0 + b.1) to are.2 in
          let at = h.1 in (omega arith, omega arith, omega arith)
      | inr h ↦
          let rest = block_bounds blocks base size (b.0 + b.1) to are.2 (rw h.0 at e) in
          (omega arith, rest.1, rest.2)
    ]

-- of two blocks the lower ends where the higher begins or before
pub blocks_apart : (blocks : List (ℕ × ℕ)) (low s high t from to : ℕ) → AreBlocks from blocks to → size_at blocks low ≡ Some s → size_at blocks high ≡ Some t → low < high → low + s ≤ high
blocks_apart [] low s high t from to are is_low is_high lt = cc
blocks_apart (b ∷ blocks) low s high t from to are is_low is_high lt =
    elim (eqb_tells b.0 high) [
      | inl h ↦
          let below = (block_bounds (b ∷ blocks) low s from to are is_low).0 in
          let at = h.1 in
          elim (eqb_tells b.0 low) [
            | inl l ↦ absurd (omega (arith, l.1))
            | inr l ↦ absurd (omega (arith, (block_bounds blocks low s (b.0 + b.1) to are.2 (rw l.0 at is_low)).0))
          ]
      | inr h ↦ elim (eqb_tells b.0 low) [
        | inl l ↦
            let same : b.1 ≡ s = same_Some b.1 s (rw l.0 at is_low) in
            omega (arith, l.1, same, (block_bounds blocks high t (b.0 + b.1) to are.2 (rw h.0 at is_high)).0)
        | inr l ↦ blocks_apart blocks low s high t (b.0 + b.1) to are.2 (rw l.0 at is_low) (rw h.0 at is_high) lt
      ]
    ]

-- ---- one more block, and more of them
pub size_at-append : (blocks more : List (ℕ × ℕ)) (base size : ℕ) → size_at blocks base ≡ Some size → size_at (blocks ++ more) base ≡ Some size
size_at-append [] more base size e = cc
size_at-append (b ∷ blocks) more base size e =
    elim (eqb_tells b.0 base) [
      | inl h ↦ let this = rw h.0 at e in rw h.0 this
      | inr h ↦ let rest = rw h.0 at e in rw h.0 (size_at-append blocks more base size rest)
    ]

pub size_at-push : (blocks : List (ℕ × ℕ)) (from to a s : ℕ) → AreBlocks from blocks to → to ≤ a → size_at (blocks ++ (a, s) ∷ []) a ≡ Some s
size_at-push [] from to a s are le = rw (eq-eqb a a refl) refl
size_at-push (b ∷ blocks) from to a s are le =
    let end = AreBlocks_le blocks (b.0 + b.1) to are.2 in
    let ne : b.0 ≢ a = omega arith in
    rw (eqb_other b.0 a ne) (size_at-push blocks (b.0 + b.1) to a s are.2 le)

-- ---- bytes within a block
pub within_size : (o : Option ℕ) (to : ℕ) → lies_within o to ≡ true → (n : ℕ) × (o ≡ Some n) × (to ≤ n)
within_size None to e = cc
within_size (Some n) to e = elim (leb_tells to n) [ inl h ↦ (n, refl, h.1) | inr h ↦ absurd (false≢true (sym h.0 ∙ e)) ]

pub aligned_from : (from align : ℕ) → 0 < align → from ≤ least_multiple from align
aligned_from from align pos =
    let x = from + (align - 1) in
    let h : align * (x / align) + x % align ≡ x = omega arith in
    let r : x % align < align = omega arith in omega arith

-- the address of a place is the least multiple
pub aligned_least : (from align : ℕ) → 0 < align → IsLeastMultiple from align (least_multiple from align)
aligned_least from align pos = record {
  multiple = ((from + (align - 1)) / align, refl);
  above = aligned_from from align pos;
  least = λ k le.
      let x = from + (align - 1) in
      let e : (k + 1) * align ≡ k * align + align = omega arith in
      let below : x / align < k + 1 = (div-lt_iff_lt-mul {k = align} {x = x} {y = k + 1} pos).1 (rw e (omega arith)) in
      mul-le-mul_right align (omega arith);
}
