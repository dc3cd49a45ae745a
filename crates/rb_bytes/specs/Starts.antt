-- How a checked memory keeps its blocks and its bytes: three lists by address, from 0 up to the end of the last
-- block, and empty before the first. `bytes` has the byte of each address; `marks` has 0 where none was written, and
-- else another number; `sizes` has the size of the block that begins there, or 0.
use Rattle.std.specs.Prelude.{◌≡◌, ℕ, zero, suc, ◌+◌, ◌-◌, ◌<◌, ◌≤◌, List, [], ◌∷◌, ◌++◌, length, map, replicate, Option, Some, None, vec_capacity}
use Rattle.rb_bytes.specs.Memory.{Memory, IsGood}
use Rattle.rb_bytes.specs.declared.checked.CheckedMemory.TheInside.{Inside}

-- the byte at an address, by its mark: a mark of 0 says that nothing was written there
abbrev pub byte_by_mark : ℕ → ℕ → Option ℕ
byte_by_mark zero byte = None
byte_by_mark (suc mark) byte = Some byte

-- the bytes of all addresses, by their marks; as long as the shorter of the two lists
abbrev pub marked_bytes : List ℕ → List ℕ → List (Option ℕ)
marked_bytes [] bytes = []
marked_bytes (mark ∷ marks) [] = []
marked_bytes (mark ∷ marks) (byte ∷ bytes) = byte_by_mark mark byte ∷ marked_bytes marks bytes

-- the size of the block that begins at an address; 0 says that none does
abbrev pub size_in : ℕ → Option ℕ
size_in zero = None
size_in (suc n) = Some (suc n)

-- the blocks, each an address and a size, by what each address from `at` on says: the size of a block that begins
-- there, or None
abbrev pub blocks_from : List (Option ℕ) → ℕ → List (ℕ × ℕ)
blocks_from [] at = []
blocks_from (None ∷ starts) at = blocks_from starts (at + 1)
blocks_from (Some size ∷ starts) at = (at, size) ∷ blocks_from starts (at + 1)

-- the bytes of all addresses up to the limit; nothing is written behind the last block, where the lists end
abbrev pub bytes_of : Inside → List (Option ℕ)
bytes_of c = marked_bytes c.marks.items c.bytes.items ++ replicate (c.limit - length c.bytes.items) None

-- the memory that these lists and numbers stand for
abbrev pub memory_of : Inside → Memory
memory_of c = record {
  limit = c.limit;
  next = c.next;
  blocks = blocks_from (map size_in c.sizes.items) 0;
  bytes = bytes_of c;
}

-- what holds of a checked memory's fields between two calls
pub record IsKept (c : Inside) : Type 0 where
  pub good : IsGood (memory_of c)
  -- there is room for the whole region
  pub room : (c.limit ≤ vec_capacity c.bytes) × (c.limit ≤ vec_capacity c.marks) × (c.limit ≤ vec_capacity c.sizes)
  -- the three lists are equally long
  pub even : (length c.marks.items ≡ length c.bytes.items) × (length c.sizes.items ≡ length c.bytes.items)
  -- they end at the next address, or are empty, as before the first block
  pub below : length c.bytes.items ≤ c.next
  pub reached : 0 < length c.bytes.items → c.next ≤ length c.bytes.items
  -- the number of blocks is that of the addresses with a size
  pub counted : c.blocks ≡ length (blocks_from (map size_in c.sizes.items) 0)
