-- Blocks in their places, one after the other: they ascend from an address on.
use Rattle.std.proofs.Common.{◌≡◌, ℕ, zero, suc, ◌+◌, ◌<◌, ◌≤◌, List, [], ◌∷◌, length, Some, refl, subst, arith}
use Rattle.std.specs.Prelude.{slice_get}
use Rattle.std.proofs.lemmas.Option.{same_Some}
use Rattle.rb_image_text.specs.declared.image.ImageBlock.{ImageBlock}
use Rattle.rb_image_text.specs.Images.{AreBelow, AreImageBlocks}
use Rattle.rb_image_text.specs.Places.{end_of, IsInPlace, AreInPlace}
use Rattle.rb_image.specs.Memories.{end_from}

-- blocks of one byte or more, that ascend without overlap from an address on up to a limit
abbrev pub Ascend : ℕ → ℕ → List ImageBlock → Type 0
Ascend limit from [] = from ≤ limit
Ascend limit from (b ∷ bs) = (from ≤ b.at) × (1 ≤ length b.bytes) × AreBelow 256 b.bytes × Ascend limit (b.at + length b.bytes) bs

-- ---- from blocks in their places
-- the end of the block before this number, an address before the first
abbrev behind : ℕ → List ImageBlock → ℕ → ℕ
behind from bs zero = from
behind from bs (suc i) = end_of (slice_get bs i)

abbrev Follow : ℕ → List ImageBlock → Type 0
Follow from bs = (i : ℕ) (b : ImageBlock) → i < length bs → slice_get bs i ≡ Some b → IsInPlace (behind from bs i) b

follow_all : (blocks : List ImageBlock) → AreInPlace blocks → (i : ℕ) (b : ImageBlock) → i < length blocks → slice_get blocks i ≡ Some b → IsInPlace (behind 0 blocks i) b
follow_all blocks placed zero b lt is = placed zero b lt is
follow_all blocks placed (suc i) b lt is = placed (suc i) b lt is

follow_rest : (from : ℕ) (b : ImageBlock) (bs : List ImageBlock) → Follow from (b ∷ bs) → (i : ℕ) (c : ImageBlock) → i < length bs → slice_get bs i ≡ Some c → IsInPlace (behind (b.at + length b.bytes) bs i) c
follow_rest from b bs follow zero c lt is = follow (suc zero) c (omega (arith, lt)) is
follow_rest from b bs follow (suc i) c lt is = follow (suc (suc i)) c (omega (arith, lt)) is

ascend_rest : (bs : List ImageBlock) (from : ℕ) → from ≤ 16777216 → Follow from bs → AreImageBlocks bs → Ascend 16777216 from bs
ascend_rest [] from le follow are = le
ascend_rest (b ∷ bs) from le follow are =
    let here = follow zero b (omega arith) refl in
    (here.behind, are.0.some, are.0.bytes, ascend_rest bs (b.at + length b.bytes) here.high (follow_rest from b bs follow) are.1)

pub ascending : (blocks : List ImageBlock) → AreInPlace blocks → AreImageBlocks blocks → Ascend 16777216 64 blocks
ascending [] placed are = omega arith
ascending (b ∷ bs) placed are =
    let here = placed zero b (omega arith) refl in
    (here.low, are.0.some, are.0.bytes, ascend_rest bs (b.at + length b.bytes) here.high (follow_rest 0 b bs (follow_all (b ∷ bs) placed)) are.1)

-- ---- where they lie
pub ends : (limit from : ℕ) (bs : List ImageBlock) → Ascend limit from bs → (from ≤ end_from from bs) × (end_from from bs ≤ limit)
ends limit from [] up = (omega arith, up)
ends limit from (b ∷ bs) up =
    let rest = ends limit (b.at + length b.bytes) bs up.3 in
    (omega (arith, up.0, rest.0), rest.1)

pub begins_above : (limit from : ℕ) (bs : List ImageBlock) (k : ℕ) (c : ImageBlock) → Ascend limit from bs → slice_get bs k ≡ Some c → from ≤ c.at
begins_above limit from [] k c up is = cc
begins_above limit from (b ∷ bs) zero c up is = subst (λ (x : ImageBlock). from ≤ x.at) (same_Some b c is) up.0
begins_above limit from (b ∷ bs) (suc k) c up is =
    let rest = begins_above limit (b.at + length b.bytes) bs k c up.3 is in
    omega (arith, up.0, rest)

-- they ascend from any lower address on
pub ascend_lower : (limit low from : ℕ) (bs : List ImageBlock) → low ≤ from → Ascend limit from bs → Ascend limit low bs
ascend_lower limit low from [] le up = omega (arith, le, up)
ascend_lower limit low from (b ∷ bs) le up = (omega (arith, le, up.0), up.1, up.2, up.3)

pub end_lower : (low from : ℕ) (bs : List ImageBlock) → low ≤ from → end_from low bs ≤ end_from from bs
end_lower low from [] le = le
end_lower low from (b ∷ bs) le = omega arith
