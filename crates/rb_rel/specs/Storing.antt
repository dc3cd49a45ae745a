-- Words that are made, and memories with more blocks, which are filled with words. A flat word is one of a leaf, the
-- form that a layout has for some values of a type; a part is a range of its bits, which holds a constant, bits or a
-- word of a field, or a pointer to one of the leaf's blocks. A path is a list of field numbers. `number` gives the word
-- to be written for each flat word.
use Rattle.std.specs.Prelude.{ℕ, zero, suc, ◌+◌, ◌/◌, List, [], ◌∷◌, ◌++◌, Option, slice_index}
use Rattle.rb_bits.specs.Words.{take_of}
use Rattle.rb_bytes.specs.Memory.{Memory, least_multiple, write_le}
use Rattle.rb_layout.specs.declared.layout.Block.{Block}
use Rattle.rb_layout.specs.declared.layout.FlatWord.{FlatWord}
use Rattle.rb_layout.specs.declared.layout.Kind.{Kind}
use Rattle.rb_layout.specs.declared.layout.Kind.TheVariants.{Const, Bits, Word, Pointer}
use Rattle.rb_layout.specs.Words.{size_of}

-- the number that a part of l bits and of this kind has to hold, where `subs` has the words of the field at a path, and
-- `ats` the address of each block by number; a word that `subs` does not have counts as 0
abbrev pub number_of : (List ℕ → List ℕ) → (ℕ → ℕ) → ℕ → Kind → ℕ
number_of subs ats l (Const c) = c
number_of subs ats l (Bits path a) = take_of (slice_index (subs path) 0) a l
number_of subs ats l (Word path j) = slice_index (subs path) j
number_of subs ats l (Pointer align b) = ats b / align

-- the address of block number b, where blocks are given by their addresses and sizes; 0 where there is no such block
abbrev pub address_at : List (ℕ × ℕ) → ℕ → ℕ
address_at [] b = 0
address_at (x ∷ xs) zero = x.0
address_at (x ∷ xs) (suc b) = address_at xs b

-- the bytes of a memory with the words for these flat words written one after the other, from address `at` on
abbrev pub with_words : (FlatWord → ℕ) → List FlatWord → ℕ → List (Option ℕ) → List (Option ℕ)
with_words number [] at bytes = bytes
with_words number (f ∷ fs) at bytes =
    with_words number fs (at + f.width / 8) (write_le bytes (f.width / 8) at (number f))

-- a memory with a block more, behind the last at the next multiple of its alignment, which is filled with its words
abbrev pub with_block : (FlatWord → ℕ) → Memory → Block → Memory
with_block number m block =
    let a = least_multiple m.next block.align in
    record {
      limit = m.limit;
      next = a + size_of block;
      blocks = m.blocks ++ (a, size_of block) ∷ [];
      bytes = with_words number block.words a m.bytes;
    }

-- a memory with these blocks more, one behind the other
abbrev pub with_blocks : (FlatWord → ℕ) → Memory → List Block → Memory
with_blocks number m [] = m
with_blocks number m (block ∷ blocks) = with_blocks number (with_block number m block) blocks
