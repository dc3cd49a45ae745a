-- Locations: the word that each comes to in a leaf, and which of its bits are known there. A location names a root
-- word and a range of its bits, and then steps. A step goes on through the pointer in just the range so far: it names
-- the pointer's alignment, in the pointer's block the word of some width that begins at some byte, and a range of
-- that. The range [o:l] is the l bits from bit o on.
use Rattle.std.specs.Prelude.{ℕ, zero, suc, ◌+◌, ◌-◌, ◌*◌, ◌/◌, ◌==◌, ◌&&◌, leb, ltb, List, [], ◌∷◌, Option, Some, None, if◌then◌else◌}
use Rattle.std.specs.Option.{option_or}
use Rattle.std.specs.Int.{bit_at}
use Rattle.rb_core.specs.declared.layout_decl.Loc.{Loc}
use Rattle.rb_core.specs.declared.layout_decl.Step.{Step}
use Rattle.rb_layout.specs.declared.layout.Leaf.{Leaf}
use Rattle.rb_layout.specs.declared.layout.FlatWord.{FlatWord}
use Rattle.rb_layout.specs.declared.layout.Part.{Part}
use Rattle.rb_layout.specs.declared.layout.Kind.{Kind}
use Rattle.rb_layout.specs.declared.layout.Kind.TheVariants.{Const, Bits, Word, Pointer}
use Rattle.rb_layout.specs.declared.layout.WordRef.{WordRef}
use Rattle.rb_layout.specs.Words.{words_in, flat_at}

-- where a location ends: a flat word with its reference, and the range [o:l] of it
pub record Reached : Type 0 where
  pub ref : WordRef
  pub word : FlatWord
  pub o : ℕ
  pub l : ℕ

-- the block of a part of this kind that is a pointer of this alignment, and None for any other
abbrev pub pointed_by : Kind → ℕ → Option ℕ
pointed_by (Const c) align = None
pointed_by (Bits path a) align = None
pointed_by (Word path j) align = None
pointed_by (Pointer own b) align = if own == align then Some b else None

-- the block of a part that is a pointer of exactly the range [o:l] and this alignment, and None for any other
abbrev pub pointed_in : Part → ℕ → ℕ → ℕ → Option ℕ
pointed_in p o l align = if (p.o == o) && (p.l == l) then pointed_by p.kind align else None

-- the block of the first of the parts that is a pointer of exactly the range [o:l] and this alignment; None where
-- none is
abbrev pub block_in : List Part → ℕ → ℕ → ℕ → Option ℕ
block_in [] o l align = None
block_in (p ∷ ps) o l align = option_or (pointed_in p o l align) (block_in ps o l align)

-- the block to which a flat word that may be missing points in exactly the range [o:l] and with this alignment; None
-- where the word is missing or has no such pointer
abbrev pub pointer_block : Option FlatWord → ℕ → ℕ → ℕ → Option ℕ
pointer_block None o l align = None
pointer_block (Some f) o l align = block_in f.parts o l align

-- The number of the first word that has this width and begins at this byte, where the first in the list is word j and
-- begins at byte `start`. Words follow one another without padding; of a width that is no multiple of 8 the whole
-- bytes count. None where no word begins there with this width.
abbrev pub word_beginning : List FlatWord → ℕ → ℕ → ℕ → ℕ → Option ℕ
word_beginning [] start byte width j = None
word_beginning (f ∷ fs) start byte width j =
    if (start == byte) && (f.width == width) then Some j else word_beginning fs (start + f.width / 8) byte width (j + 1)

-- a reference to word j of block b, and None where no j is given
abbrev pub ref_in : ℕ → Option ℕ → Option WordRef
ref_in b None = None
ref_in b (Some j) = Some (record { block = Some b; word = j })

-- The word at which a step ends, where it goes through a pointer to the given block: the first of that block that
-- begins at the step's byte and has its width. None where no block is given, or there is no such block or word.
abbrev pub next_ref : Leaf → Option ℕ → Step → Option WordRef
next_ref leaf None s = None
next_ref leaf (Some b) s = ref_in b (word_beginning (words_in leaf (Some b)) 0 s.byte s.width 0)

-- where a location ends at the range [o:l] of a word, given with its reference; None where the word is missing, or
-- the range has no bit or goes beyond the word
abbrev pub range_in : Option FlatWord → WordRef → ℕ → ℕ → Option Reached
range_in None r o l = None
range_in (Some f) r o l =
    if leb 1 l && leb (o + l) f.width then Some (record { ref = r; word = f; o = o; l = l }) else None

-- Where steps lead from the range [o:l] of the word at a reference. Each step goes from a pointer part of exactly the
-- range and the alignment to a word of its block; without a step left, the range ends the location. None where no
-- reference is given or the leaf has no word there, where a step finds no such pointer or word, and where the last
-- range has no bit or goes beyond its word.
abbrev pub resolve_from : Leaf → Option WordRef → ℕ → ℕ → List Step → Option Reached
resolve_from leaf None o l steps = None
resolve_from leaf (Some r) o l [] = range_in (flat_at leaf r) r o l
resolve_from leaf (Some r) o l (s ∷ steps) =
    resolve_from leaf (next_ref leaf (pointer_block (flat_at leaf r) o l s.align) s) s.o s.l steps

-- where a location ends in a leaf, from the root word that it names on; None where it does not resolve
abbrev pub reached_at : Leaf → Loc → Option Reached
reached_at leaf loc = resolve_from leaf (Some (record { block = None; word = loc.word })) loc.o loc.l loc.steps

-- the reference to the word at which a location ends, and None where it does not resolve
abbrev pub ref_of : Option Reached → Option WordRef
ref_of None = None
ref_of (Some x) = Some x.ref

-- bit i of the number that a part of this kind has, where it is a constant; None for any other kind
abbrev pub bit_of_kind : Kind → ℕ → Option ℕ
bit_of_kind (Const c) i = Some (bit_at c i)
bit_of_kind (Bits path a) i = None
bit_of_kind (Word path j) i = None
bit_of_kind (Pointer align b) i = None

-- bit i of a word, where it stands in this part and the part is a constant; None elsewhere
abbrev pub bit_of_part : Part → ℕ → Option ℕ
bit_of_part p i = if leb p.o i && ltb i (p.o + p.l) then bit_of_kind p.kind (i - p.o) else None

-- bit i of a word with these parts, by the first of them that is a constant and has this bit; None where none is
abbrev pub constant_bit : List Part → ℕ → Option ℕ
constant_bit [] i = None
constant_bit (p ∷ ps) i = option_or (bit_of_part p i) (constant_bit ps i)

-- a number by its lowest bit and the number of its higher bits, where both are there
abbrev pub with_bit : Option ℕ → Option ℕ → Option ℕ
with_bit None rest = None
with_bit (Some b) None = None
with_bit (Some b) (Some r) = Some (b + 2 * r)

-- the number of the l bits of a word from bit o on, where each is constant by one of the word's parts, and else None;
-- 0 where l is 0
abbrev pub constant_bits : List Part → ℕ → ℕ → Option ℕ
constant_bits ps o zero = Some 0
constant_bits ps o (suc l) = with_bit (constant_bit ps o) (constant_bits ps (o + 1) l)

-- the number of the bits at which a location ends, where each of them is constant; None elsewhere, and where it does
-- not resolve
abbrev pub known_in : Option Reached → Option ℕ
known_in None = None
known_in (Some x) = constant_bits x.word.parts x.o x.l

-- the number that is known at a location of a leaf: it resolves there, and all bits of its last range are constant;
-- None elsewhere
abbrev pub number_known : Leaf → Loc → Option ℕ
number_known leaf loc = known_in (reached_at leaf loc)
