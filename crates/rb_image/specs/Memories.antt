-- The memory in which exactly the blocks of an image stand, and memories in which they stand among others. An
-- image's block has an address and bytes; a memory has the blocks that were placed in it, each with its size, what
-- is written at each of its addresses, the next free address, and a limit.
use Rattle.std.specs.Prelude.{◌≡◌, ℕ, ◌+◌, ◌-◌, List, [], ◌∷◌, ◌++◌, length, map, replicate, Option, Some, None, slice_get}
use Rattle.rb_bytes.specs.Memory.{Memory, byte_at, least_region, most_region, size_at}
use Rattle.rb_image_text.specs.declared.image.ImageBlock.{ImageBlock}

-- the address behind the last of the blocks, or `from` where there is none
abbrev pub end_from : ℕ → List ImageBlock → ℕ
end_from from [] = from
end_from from (b ∷ bs) = end_from (b.at + length b.bytes) bs

-- a block's address, and its size in bytes
abbrev pub span_of : ImageBlock → ℕ × ℕ
span_of b = (b.at, length b.bytes)

-- what is written at the addresses from one on up to another: the bytes of the blocks, and nothing between them
abbrev pub bytes_from : ℕ → List ImageBlock → ℕ → List (Option ℕ)
bytes_from from [] to = replicate (to - from) None
bytes_from from (b ∷ bs) to =
    replicate (b.at - from) None ++ (map Some b.bytes ++ bytes_from (b.at + length b.bytes) bs to)

-- the memory of so many bytes that has these blocks and no others
abbrev pub memory_within : ℕ → List ImageBlock → Memory
memory_within limit blocks =
    record {
      limit = limit;
      next = end_from least_region blocks;
      blocks = map span_of blocks;
      bytes = bytes_from 0 blocks limit;
    }

-- the memory of an image with these blocks, and no others: as many bytes as the greatest region has
unfoldable pub image_memory : List ImageBlock → Memory
image_memory blocks = memory_within most_region blocks

-- block b of an image stands in memory m: a block of its very size begins at its address, and each of its bytes is
-- written there
pub record BlockStands (m : Memory) (b : ImageBlock) : Type 0 where
  pub size : size_at m.blocks b.at ≡ Some (length b.bytes)
  pub bytes : (i n : ℕ) → slice_get b.bytes i ≡ Some n → byte_at m.bytes (b.at + i) ≡ Some n

-- each of the blocks of an image stands in the memory, at its own address, with its size and its bytes
abbrev pub Stand : List ImageBlock → Memory → Type 0
Stand blocks m = (k : ℕ) (b : ImageBlock) → slice_get blocks k ≡ Some b → BlockStands m b
