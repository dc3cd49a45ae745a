-- How a raw memory keeps its blocks: a mark at the first and at the last byte of each. The mark of an address is
-- 1 at a first byte, 2 at a last one, 3 at one that is both, and else 0.
use Rattle.std.specs.Prelude.{◌≡◌, ℕ, ◌+◌, ◌-◌, ◌%◌, ◌≤◌, Bool, eqb, leb, List, [], ◌∷◌, length, slice_index, if◌then◌else◌}
use Rattle.rb_bytes.specs.Memory.{Memory, IsGood}
use Rattle.rb_raw.specs.declared.memory.RawMemory.TheInside.{Inside}

-- whether a mark, of 0 to 3, says that a block begins at its address: it is 1 or 3
abbrev pub is_first : ℕ → Bool
is_first mark = eqb (mark % 2) 1

-- whether a mark, of 0 to 3, says that the byte at its address is the last of a block: it is 2 or 3
abbrev pub is_last : ℕ → Bool
is_last mark = leb 2 mark

-- the blocks, each its address and its size, that have their last byte at an address from `at` on, given the marks
-- of these; `begun` is where the one began that is open there, if any
abbrev pub blocks_in : List ℕ → ℕ → ℕ → List (ℕ × ℕ)
blocks_in [] at begun = []
blocks_in (mark ∷ marks) at begun =
    let first = if is_first mark then at else begun in
    if is_last mark
    then (first, at + 1 - first) ∷ blocks_in marks (at + 1) first
    else blocks_in marks (at + 1) first

-- a raw memory as contracts see it: its limit, its next address, the blocks that its marks spell, and its bytes
abbrev pub memory_of : Inside → Memory
memory_of r = record { limit = r.limit; next = r.next; blocks = blocks_in r.marks.items 0 0; bytes = r.bytes }

-- what holds of a raw memory between two calls: it is good, it has a mark for each address below its limit, 0 from
-- the next address on, and it counts its blocks
pub record MarksAreKept (r : Inside) : Type 0 where
  pub good : IsGood (memory_of r)
  pub long : length r.marks.items ≡ r.limit
  pub clear : (a : ℕ) → r.next ≤ a → slice_index r.marks.items a ≡ 0
  pub counted : r.blocks ≡ length (blocks_in r.marks.items 0 0)
