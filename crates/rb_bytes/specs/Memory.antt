-- What a memory is, when it is good, and what a place, a load and a store do with it.
--
-- Addresses, sizes, alignments and offsets are bytes, and widths are bits. A range of bytes from one address up
-- to another has the first address and not the second. A base is the address at which a block begins. An access
-- is a base, an offset and a width: its bytes are width / 8 of them, rounded down, from base + offset on.
use Rattle.std.specs.Prelude.{◌≡◌, ℕ, zero, suc, ◌+◌, ◌-◌, ◌*◌, ◌/◌, ◌%◌, ◌^◌, ◌<◌, ◌≤◌, ◌⊎◌, Bool, false, eqb, leb, List, [], ◌∷◌, ◌++◌, length, Option, Some, None, Result, Ok, Err, replicate, slice_get, slice_set, if◌then◌else◌}
use Rattle.rb_bytes.specs.declared.fault.Trap.{Trap}
use Rattle.rb_bytes.specs.declared.fault.Trap.TheVariants.{Astray, Unwritten}
use Rattle.rb_bytes.specs.declared.fault.Full.{Full}

-- the address at which a region ends at the earliest, and from which on its blocks are placed
abbrev pub least_region : ℕ
least_region = 64

-- the address at which a region ends at the latest
abbrev pub most_region : ℕ
most_region = 16777216

-- the greatest size of a block in bytes
abbrev pub most_block : ℕ
most_block = 512

-- a region of bytes and the blocks in it, as plain data
pub record Memory : Type 0 where
  -- the address at which the region ends
  pub limit : ℕ
  -- the address from which on the next block is placed
  pub next : ℕ
  -- each block's address and size, in the order in which they were placed
  pub blocks : List (ℕ × ℕ)
  -- for each address from 0 on the byte that was written there, or None
  pub bytes : List (Option ℕ)

-- Blocks, each an address and a size, ascend without overlap from one address on, each has a byte at least, and
-- the last ends at the other address at the latest. Without a block the first address is not above the other.
abbrev pub AreBlocks : ℕ → List (ℕ × ℕ) → ℕ → Type 0
AreBlocks from [] to = from ≤ to
AreBlocks from (b ∷ bs) to = (from ≤ b.0) × (0 < b.1) × AreBlocks (b.0 + b.1) bs to

-- the byte that was written at an address, by what a list of bytes has there; None where none was written, and where
-- the list ends before that address
abbrev pub byte_in : Option (Option ℕ) → Option ℕ
byte_in None = None
byte_in (Some b) = b

-- the byte that was written at an address, by the bytes of a memory; None where none was, or where they end before
abbrev pub byte_at : List (Option ℕ) → ℕ → Option ℕ
byte_at bytes a = byte_in (slice_get bytes a)

-- A memory as it can come to be: its blocks stand in order between the address `least_region` and the next address,
-- which is within the region, and the region ends at `most_region` at the latest.
pub record IsGood (m : Memory) : Type 0 where
  pub blocks : AreBlocks least_region m.blocks m.next
  pub next : (least_region ≤ m.next) × (m.next ≤ m.limit)
  pub limit : m.limit ≤ most_region
  -- each address below the limit has its place in the list of bytes
  pub long : length m.bytes ≡ m.limit
  -- what is written is a byte, and nothing is written from the next address on
  pub small : (a b : ℕ) → byte_at m.bytes a ≡ Some b → b < 256
  pub fresh : (a : ℕ) → m.next ≤ a → byte_at m.bytes a ≡ None

-- the width of an access in bits: one, two, four or eight bytes
abbrev pub IsWidth : ℕ → Type 0
IsWidth width = (width ≡ 8) ⊎ (width ≡ 16) ⊎ (width ≡ 32) ⊎ (width ≡ 64)

-- the size of a block in bytes: from 1 to `most_block`
abbrev pub IsSize : ℕ → Type 0
IsSize size = (0 < size) × (size ≤ most_block)

-- the alignment of a block in bytes: a power of two up to 64
abbrev pub IsAlign : ℕ → Type 0
IsAlign align = (k : ℕ) × (k ≤ 6) × (align ≡ 2 ^ k)

-- a region that ends at the limit, without a block and without a byte written; the first block may begin at the
-- address `least_region`
abbrev pub empty_memory : ℕ → Memory
empty_memory limit = record { limit = limit; next = least_region; blocks = []; bytes = replicate limit None }

-- the least multiple of the alignment that is not below an address; 0 for the alignment 0
abbrev pub least_multiple : ℕ → ℕ → ℕ
least_multiple from align = (from + (align - 1)) / align * align

-- What a place of a block of `size` bytes at a multiple of `align` answers, and the memory after it: the block stands
-- at the least multiple from the next address on, which is the answer, its end is the next address then, and no byte
-- is written. Where it would end above the limit, the answer is `Full`, with the memory's next address, the size, the
-- alignment and the memory's limit, and nothing changes.
abbrev pub place_of : Memory → ℕ → ℕ → Result ℕ Full × Memory
place_of m size align =
    let a = least_multiple m.next align in
    if leb (a + size) m.limit
    then (Ok a, record m { next = a + size; blocks = m.blocks ++ (a, size) ∷ [] })
    else (Err (record { next = m.next; size = size; align = align; limit = m.limit }), m)

-- the size of the first of some blocks that begins at the base; None where none begins there
abbrev pub size_at : List (ℕ × ℕ) → ℕ → Option ℕ
size_at [] base = None
size_at (b ∷ bs) base = if eqb b.0 base then Some b.1 else size_at bs base

-- whether there is a block, by its size or None, and it has at least so many bytes
abbrev pub lies_within : Option ℕ → ℕ → Bool
lies_within None to = false
lies_within (Some size) to = leb to size

-- The number in a byte and those behind it, the lowest first, from the byte's address, what was written there, and
-- what the bytes behind it give. Where nothing was written there, the answer is `Unwritten` with this address; else a
-- trap of those behind stays.
abbrev pub then_byte : ℕ → Option ℕ → Result ℕ Trap → Result ℕ Trap
then_byte at None rest = Err (Unwritten at)
then_byte at (Some b) (Err e) = Err e
then_byte at (Some b) (Ok r) = Ok (b + 256 * r)

-- the number in n bytes from an address on, the lowest first, and 0 for no bytes; or `Unwritten` with the address of
-- the first of them that was never written, also where the list ends before it
abbrev pub read_le : List (Option ℕ) → ℕ → ℕ → Result ℕ Trap
read_le bytes zero at = Ok 0
read_le bytes (suc n) at = then_byte at (byte_at bytes at) (read_le bytes n (at + 1))

-- the bytes of a memory after the low n bytes of a word were written from an address on, the lowest first; what would
-- go beyond the list's end is dropped
abbrev pub write_le : List (Option ℕ) → ℕ → ℕ → ℕ → List (Option ℕ)
write_le bytes zero at word = bytes
write_le bytes (suc n) at word = write_le (slice_set bytes at (Some (word % 256))) n (at + 1) (word / 256)

-- What a load answers at a base, an offset and a width: the number in the access's bytes, the lowest first. It is
-- `Astray` where the base is no block's, or the access goes past the block's end; else `Unwritten` with the address
-- of the first of the bytes that was never written.
unfoldable pub load_of : Memory → ℕ → ℕ → ℕ → Result ℕ Trap
load_of m base offset width =
    if lies_within (size_at m.blocks base) (offset + width / 8)
    then read_le m.bytes (width / 8) (base + offset)
    else Err (Astray base offset)

-- What a store answers at a base, an offset and a width, and the memory after it: the low bytes of the word, as many
-- as the access has, are in the access's bytes. Where the base is no block's, or the access goes past the block's end,
-- the answer is `Astray`, and nothing changes.
unfoldable pub store_of : Memory → ℕ → ℕ → ℕ → ℕ → Result (Unit {0}) Trap × Memory
store_of m base offset width word =
    if lies_within (size_at m.blocks base) (offset + width / 8)
    then (Ok tt, record m { bytes = write_le m.bytes (width / 8) (base + offset) word })
    else (Err (Astray base offset), m)
