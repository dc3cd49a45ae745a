-- A memory into which blocks are put one after the other. A memory has blocks, a next address at which the next
-- block is placed, and a limit above which none ends; at each address a byte is written or none.
use Rattle.std.specs.Prelude.{◌≡◌, ℕ, ◌+◌, ◌<◌, ◌≤◌, max, List, [], ◌∷◌, ◌++◌, length, Some, slice_get}
use Rattle.rb_bytes.specs.Memory.{Memory, IsGood, byte_at, least_region}
use Rattle.rb_image_text.specs.Places.{end_before}
use Rattle.rb_image_text.specs.declared.image.ImageBlock.{ImageBlock}
use Rattle.rb_image.specs.Memories.{BlockStands}

-- the memory with a block of so many bytes at its next address; what is written stays as it was
abbrev pub with_next : Memory → ℕ → Memory
with_next m size = record m { next = m.next + size; blocks = m.blocks ++ (m.next, size) ∷ [] }

-- the first so many bytes are written from an address on, the blocks and all bytes below are as they were
pub record AreStored (old : Memory) (at : ℕ) (bytes : List ℕ) (count : ℕ) (new : Memory) : Type 0 where
  pub good : IsGood new
  pub limit : new.limit ≡ old.limit
  pub next : new.next ≡ old.next
  pub blocks : new.blocks ≡ old.blocks
  pub written : (i n : ℕ) → i < count → slice_get bytes i ≡ Some n → byte_at new.bytes (at + i) ≡ Some n
  pub below : (a : ℕ) → a < at → byte_at new.bytes a ≡ byte_at old.bytes a

-- none of these blocks ends behind the address `end`
abbrev pub EndBy : ℕ → List ImageBlock → Type 0
EndBy end blocks = (k : ℕ) (b : ImageBlock) → slice_get blocks k ≡ Some b → b.at + length b.bytes ≤ end

-- the first so many blocks stand in a memory that has room for all, and its next address is no higher than the next one
pub record StandBefore (blocks : List ImageBlock) (count : ℕ) (m : Memory) : Type 0 where
  pub good : IsGood m
  pub room : EndBy m.limit blocks
  pub next : m.next ≤ max least_region (end_before blocks count)
  pub stand : (k : ℕ) (b : ImageBlock) → k < count → slice_get blocks k ≡ Some b → BlockStands m b
