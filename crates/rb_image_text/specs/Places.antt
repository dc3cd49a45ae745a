-- Blocks that ascend without overlap from `least_region` on, and the first that doesn't. A block of an image has an
-- address, at which it begins, and bytes. The greatest region is the first `most_region` bytes of a memory. Blocks are
-- counted from 0.
use Rattle.std.specs.Prelude.{◌≡◌, ℕ, zero, suc, ◌+◌, ◌<◌, ◌≤◌, List, length, Option, Some, None, slice_get}
use Rattle.rb_bytes.specs.Memory.{least_region, most_region}
use Rattle.rb_image_text.specs.declared.image.ImageBlock.{ImageBlock}

-- the address behind a block's last byte; 0 where there is no block
abbrev pub end_of : Option ImageBlock → ℕ
end_of None = 0
end_of (Some b) = b.at + length b.bytes

-- the address behind the block before the one of this number; 0 where there is none
abbrev pub end_before : List ImageBlock → ℕ → ℕ
end_before blocks zero = 0
end_before blocks (suc i) = end_of (slice_get blocks i)

-- the block begins at `least_region` or later and at the address `before` or later, and ends within the greatest region
pub record IsInPlace (before : ℕ) (b : ImageBlock) : Type 0 where
  pub low : least_region ≤ b.at
  pub behind : before ≤ b.at
  pub high : b.at + length b.bytes ≤ most_region

-- each of the first n blocks is in its place: from `least_region` on, behind the one before it, and within the
-- greatest region
abbrev pub AreInPlaceBefore : List ImageBlock → ℕ → Type 0
AreInPlaceBefore blocks n =
    (i : ℕ) (b : ImageBlock) → i < n → slice_get blocks i ≡ Some b → IsInPlace (end_before blocks i) b

-- all blocks are in their places: they ascend without overlap from `least_region` on, within the greatest region
abbrev pub AreInPlace : List ImageBlock → Type 0
AreInPlace blocks = AreInPlaceBefore blocks (length blocks)

-- block i, counted from 0, is the first that is out of its place
pub record IsFirstMisplaced (blocks : List ImageBlock) (i : ℕ) : Type 0 where
  pub block : ImageBlock
  pub is : slice_get blocks i ≡ Some block
  pub misplaced : IsInPlace (end_before blocks i) block → ⊥
  pub first : AreInPlaceBefore blocks i
