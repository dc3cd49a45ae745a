-- What a place, a store and a load do to a good memory: what stays, and what is read again. An access is a base, an
-- offset in bytes and a width in bits: its bytes are width / 8 of them from base + offset on.
use Rattle.std.specs.Prelude.{◌≡◌, ◌≢◌, ℕ, ◌+◌, ◌*◌, ◌/◌, ◌%◌, ◌^◌, ◌<◌, ◌≤◌, ◌⊎◌, List, ◌++◌, length, Some, None, IsSome, Result, Ok, Err, IfOk, OnOk, slice_get}
use Rattle.rb_bits.specs.LittleEndian.{from_le_bytes}
use Rattle.rb_bytes.specs.Memory.{Memory, IsGood, byte_at, size_at, load_of}
use Rattle.rb_bytes.specs.declared.fault.Full.{Full}
use Rattle.rb_bytes.specs.declared.fault.Trap.{Trap}
use Rattle.rb_bytes.specs.declared.fault.Trap.TheVariants.{Unwritten}

-- the new memory has the old one's limit and blocks, in their order and with others behind them at most, its next
-- address is not lower, and each byte that was written in the old one is the same
pub record Extends (old new : Memory) : Type 0 where
  pub limit : new.limit ≡ old.limit
  pub next : old.next ≤ new.next
  pub blocks : (more : List (ℕ × ℕ)) × (new.blocks ≡ old.blocks ++ more)
  pub written : (a b : ℕ) → byte_at old.bytes a ≡ Some b → byte_at new.bytes a ≡ Some b

-- two accesses have no byte in common, as one ends where the other begins, or before: that at base b, offset o and
-- width w, and that at base c, offset p and width v
abbrev pub AreApart : ℕ → ℕ → ℕ → ℕ → ℕ → ℕ → Type 0
AreApart b o w c p v = (b + o + w / 8 ≤ c + p) ⊎ (c + p + v / 8 ≤ b + o)

-- each load from the old memory that gives a word gives the same from the new one
abbrev pub KeepsLoads : Memory → Memory → Type 0
KeepsLoads old new = (b o w r : ℕ) → load_of old b o w ≡ Ok r → load_of new b o w ≡ Ok r

-- What was written and what is loaded differs between the old and the new memory at most by the bytes of the access
-- at this base, offset and width: other bytes, loads of other bytes alone, and loads from other bases are the same,
-- whether they give a word or a trap.
pub record ChangesOnly (old new : Memory) (base offset width : ℕ) : Type 0 where
  pub bytes : (a : ℕ) → (a < base + offset) ⊎ (base + offset + width / 8 ≤ a)
      → byte_at new.bytes a ≡ byte_at old.bytes a
  pub elsewhere : (b o w : ℕ) → AreApart base offset width b o w → load_of new b o w ≡ load_of old b o w
  pub other_block : (b o w : ℕ) → base ≢ b → load_of new b o w ≡ load_of old b o w

-- What an earlier memory had stays between the old and the new one, where an access at this base and offset was
-- written: each good memory that the old one extends is extended by the new one, too, if that memory's next address
-- is at most base + offset, so that the access is above all that it had.
abbrev pub KeepsEarlier : Memory → Memory → ℕ → ℕ → Type 0
KeepsEarlier old new base offset =
    (early : Memory) → IsGood early → early.next ≤ base + offset → Extends early old → Extends early new

-- from an address on the memory has these bytes, all of them written; of an empty list it says nothing
abbrev pub Spells : Memory → ℕ → List ℕ → Type 0
Spells m at bytes = (i : ℕ) → i < length bytes → byte_at m.bytes (at + i) ≡ slice_get bytes i

-- a is the least multiple of the alignment that is not below the address `from`
pub record IsLeastMultiple (from align a : ℕ) : Type 0 where
  pub multiple : (k : ℕ) × (a ≡ k * align)
  pub above : from ≤ a
  pub least : (k : ℕ) → from ≤ k * align → a ≤ k * align

-- of the n bytes from the address `at` on, that at a was never written, and each before it was
pub record IsFirstUnwritten (m : Memory) (at n a : ℕ) : Type 0 where
  pub within : (at ≤ a) × (a < at + n)
  pub unwritten : byte_at m.bytes a ≡ None
  pub before : (k : ℕ) → at ≤ k → k < a → IsSome (byte_at m.bytes k)

-- What holds after a place in the memory m of a block of `size` bytes at a multiple of `align`, by `placed`, its
-- answer and the memory after it. Where the block did not fit, the answer is no address, and `least`, `found` and
-- `unwritten` say nothing.
pub record IsPlaced (m : Memory) (size align : ℕ) (placed : Result ℕ Full × Memory) : Type 0 where
  pub good : IsGood placed.1
  -- the block stands at the least multiple from the next address on
  pub least : IfOk placed.0 (λ a. IsLeastMultiple m.next align a)
  -- all that was placed and written stays, and so does what could be loaded
  pub stays : Extends m placed.1
  pub loads : KeepsLoads m placed.1
  -- the new block is found at its address, and no byte from there on is written
  pub found : IfOk placed.0 (λ a. size_at placed.1.blocks a ≡ Some size)
  pub unwritten : IfOk placed.0 (λ a. (k : ℕ) → a ≤ k → byte_at placed.1.bytes k ≡ None)

-- What holds after a store of a word in the memory m at a base, an offset and a width, by `stored`, its answer and
-- the memory after it. Where the store trapped, `loaded` says nothing.
pub record IsStored (m : Memory) (base offset width word : ℕ) (stored : Result (Unit {0}) Trap × Memory) : Type 0
  where
    pub good : IsGood stored.1
    -- the word is loaded again, as far as the width goes
    pub loaded : OnOk stored.0 (load_of stored.1 base offset width ≡ Ok (word % 2 ^ width))
    -- other bytes stay, and so does what an earlier memory had below the access
    pub only : ChangesOnly m stored.1 base offset width
    pub earlier : KeepsEarlier m stored.1 base offset

-- What a load from the memory m at a base, an offset and a width gives, by `loaded`, its answer. Of a load that goes
-- astray both laws say nothing.
pub record IsLoaded (m : Memory) (base offset width : ℕ) (loaded : Result ℕ Trap) : Type 0 where
  -- a word that is loaded is the number that the bytes there spell, the lowest first; it says nothing of a width
  -- that is no multiple of 8
  pub spelled : (bytes : List ℕ) → width ≡ 8 * length bytes → Spells m (base + offset) bytes
      → OnOk loaded (loaded ≡ Ok (from_le_bytes bytes))
  -- a trap for want of a byte names the first that was never written
  pub unwritten : (a : ℕ) → loaded ≡ Err (Unwritten a) → IsFirstUnwritten m (base + offset) (width / 8) a
