-- The texts of images grow at their end, and blocks are found by ascending address.
use Rattle.std.proofs.Common.{◌≡◌, ℕ, zero, suc, ◌+◌, ◌<◌, ◌≤◌, true, false, List, [], ◌∷◌, ◌++◌, length, Option, Some, refl, sym, subst, ap, ◌∙◌, arith, append_assoc, append-nil, inl, inr}
use Rattle.std.specs.Prelude.{nat_le, find, slice_get, unwrap_or}
use Rattle.std.proofs.lemmas.Bool.{cases_lt}
use Rattle.std.proofs.lemmas.Bool.Decides.{nat_tests}
use Rattle.std.proofs.lemmas.Option.{same_Some}
use Rattle.rb_bytes.specs.Memory.{Memory, AreBlocks, byte_at}
use Rattle.rb_bytes.proofs.BlockLemmas.{AreBlocks_le}
use Rattle.rb_image_text.specs.MemoryImages.{bytes_over}
use Rattle.rb_image_text.specs.Text.{byte_text, bytes_text}

-- Bytes -------------------------------------------------------------------------------------

pub bytes_next : (m : Memory) (at n : ℕ) → bytes_text (bytes_over m at (n + 1)) ≡ bytes_text (bytes_over m at n) ++ byte_text (unwrap_or (byte_at m.bytes (at + n)) 0)
bytes_next m at n = let z : suc n ≡ n + 1 = omega arith in ap (λ k. bytes_text (bytes_over m at k)) (sym z) ∙ more at n
  where
    more : (at n : ℕ) → bytes_text (bytes_over m at (suc n)) ≡ bytes_text (bytes_over m at n) ++ byte_text (unwrap_or (byte_at m.bytes (at + n)) 0)
    more at zero = let z : at ≡ at + 0 = omega arith in append-nil (byte_text (unwrap_or (byte_at m.bytes at) 0)) ∙ ap (λ a. byte_text (unwrap_or (byte_at m.bytes a) 0)) z
    more at (suc n) =
        let here = byte_text (unwrap_or (byte_at m.bytes at) 0) in
        let behind = bytes_text (bytes_over m (at + 1) n) in
        let z : at + 1 + n ≡ at + suc n = omega arith in
        ap (λ t. here ++ t) (more (at + 1) n ∙ ap (λ a. behind ++ byte_text (unwrap_or (byte_at m.bytes a) 0)) z)
        ∙ sym (append_assoc here behind (byte_text (unwrap_or (byte_at m.bytes (at + suc n)) 0)))

pub length-bytes_over : (m : Memory) (at n : ℕ) → length (bytes_over m at n) ≡ n
length-bytes_over m at zero = refl
length-bytes_over m at (suc n) = ap suc (length-bytes_over m (at + 1) n)

-- Blocks ------------------------------------------------------------------------------------

pub block_within : (bs : List (ℕ × ℕ)) (from to : ℕ) → AreBlocks from bs to → (j : ℕ) (b : ℕ × ℕ) → slice_get bs j ≡ Some b → (from ≤ b.0) × (0 < b.1) × (b.0 + b.1 ≤ to)
block_within [] from to are j b is = absurd cc
block_within (x ∷ bs) from to are zero b is =
    subst (λ (y : ℕ × ℕ). (from ≤ y.0) × (0 < y.1) × (y.0 + y.1 ≤ to)) (same_Some x b is) (are.0, are.1, AreBlocks_le bs (x.0 + x.1) to are.2)
block_within (x ∷ bs) from to are (suc j) b is = let h = block_within bs (x.0 + x.1) to are.2 j b is in (omega (arith, are.0, h.0), h.1, h.2)

blocks_ascend : (bs : List (ℕ × ℕ)) (from to : ℕ) → AreBlocks from bs to → (i j : ℕ) (b c : ℕ × ℕ) → i < j → slice_get bs i ≡ Some b → slice_get bs j ≡ Some c → b.0 + b.1 ≤ c.0
blocks_ascend [] from to are i j b c lt is at = absurd cc
blocks_ascend (x ∷ bs) from to are i zero b c lt is at = absurd (omega (arith, lt))
blocks_ascend (x ∷ bs) from to are zero (suc j) b c lt is at =
    subst (λ (y : ℕ × ℕ). y.0 + y.1 ≤ c.0) (same_Some x b is) (block_within bs (x.0 + x.1) to are.2 j c at).0
blocks_ascend (x ∷ bs) from to are (suc i) (suc j) b c lt is at = blocks_ascend bs (x.0 + x.1) to are.2 i j b c (omega (arith, lt)) is at

-- so many blocks begin below an address, and the others there or above
pub record Parted (bs : List (ℕ × ℕ)) (turn from : ℕ) : Type 0 where
  pub below : (j : ℕ) (b : ℕ × ℕ) → slice_get bs j ≡ Some b → j < turn → b.0 < from
  pub above : (j : ℕ) (b : ℕ × ℕ) → slice_get bs j ≡ Some b → turn ≤ j → from ≤ b.0

pub parted_none : (bs : List (ℕ × ℕ)) → Parted bs 0 0
parted_none bs = record { below = λ j b is lt. absurd (omega (arith, lt)); above = λ j b is le. omega arith }

pub parted_next : (bs : List (ℕ × ℕ)) (start to turn from : ℕ) → AreBlocks start bs to → Parted bs turn from → (b : ℕ × ℕ) → slice_get bs turn ≡ Some b → Parted bs (turn + 1) (b.0 + b.1)
parted_next bs start to turn from are p b is =
    let here = block_within bs start to are turn b is in
    let up = p.above turn b is (omega arith) in
    record {
      below = λ j c at lt. elim (cases_lt j turn) [
        | inl less ↦ (let h = p.below j c at less in omega (arith, h, up))
        | inr le ↦
            let e : turn ≡ j = omega (arith, lt, le) in
            let same : b ≡ c = same_Some b c (sym is ∙ ap (slice_get bs) e ∙ at) in
            subst (λ (y : ℕ × ℕ). y.0 < b.0 + b.1) same (omega (arith, here.1))
      ];
      above = λ j c at le. blocks_ascend bs start to are turn j b c (omega (arith, le)) is at;
    }

pub found_next : (bs : List (ℕ × ℕ)) (turn from : ℕ) → Parted bs turn from → find (λ (b : ℕ × ℕ). nat_le from b.0) bs ≡ slice_get bs turn
found_next [] turn from p = refl
found_next (b ∷ bs) zero from p =
    let le = p.above 0 b refl (omega arith) in
    let is : nat_le from b.0 ≡ true = grind (arith, nat_tests, le) in rw is refl
found_next (b ∷ bs) (suc turn) from p =
    let lt = p.below 0 b refl (omega arith) in
    let is : nat_le from b.0 ≡ false = grind (arith, nat_tests, lt) in
    rw is (found_next bs turn from (record { below = λ j c at less. p.below (suc j) c at (omega (arith, less)); above = λ j c at le. p.above (suc j) c at (omega (arith, le)) }))

-- a block that is found is the next one
pub next_block : (m : Memory) (turn from : ℕ) (o : Option (ℕ × ℕ)) → Parted m.blocks turn from → o ≡ find (λ (b : ℕ × ℕ). nat_le from b.0) m.blocks → o ≡ slice_get m.blocks turn
next_block m turn from o p is = is ∙ found_next m.blocks turn from p
