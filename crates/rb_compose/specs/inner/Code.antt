-- The code of a leaf, instruction by instruction: its words composed, and its blocks placed and filled. It is
-- appended to a sheet b, the code so far; b.slots is the number of the first slot that is new. `hs` are the
-- subvalues, values in slots, each with its path: field numbers from the root. `blocks` are the slots of the
-- addresses of those blocks that are placed already. A part has the l bits from bit o of a word on. Its kind says
-- what they hold: a constant; bits of the integer at a path, from bit a on; word j of the value of a data type at a
-- path; or the address of block x, counted in units of `align` bytes. A part is ready where a slot holds it in its
-- place and no other bit: an `or` sets it beside what a word has. Any other is put over it, into its range.
use Rattle.std.specs.Prelude.{ℕ, ◌+◌, ◌-◌, ◌/◌, ◌==◌, ◌&&◌, length, Bool, true, false, List, [], ◌∷◌, ◌++◌, Option, Some, None, slice_get, slice_index, if◌then◌else◌}
use Rattle.rb_core.specs.declared.types.Ty.{Ty}
use Rattle.rb_core.specs.declared.types.Ty.TheVariants.{Int, Named}
use Rattle.rb_bits.specs.Words.{put_of, take_of}
use Rattle.rb_target.specs.declared.instr.AluOp.TheVariants.{Or}
use Rattle.rb_target.specs.declared.instr.Instr.TheVariants as I
use Rattle.rb_target.specs.Sheet.{Sheet, with_more, with_slot}
use Rattle.rb_layout.specs.declared.layout.Block.{Block}
use Rattle.rb_layout.specs.declared.layout.FlatWord.{FlatWord}
use Rattle.rb_layout.specs.declared.layout.Kind.{Kind}
use Rattle.rb_layout.specs.declared.layout.Kind.TheVariants.{Const, Bits, Word, Pointer}
use Rattle.rb_layout.specs.declared.layout.Leaf.{Leaf}
use Rattle.rb_layout.specs.declared.layout.Part.{Part}
use Rattle.rb_layout.specs.Words.{size_of}
use Rattle.rb_fragment.specs.declared.held.Held.{Held}
use Rattle.rb_fragment.specs.Reads.{is_range}
use Rattle.rb_compose.specs.declared.subvalue.Subvalue.{Subvalue}
use Rattle.rb_compose.specs.Counts.{capped_bits}
use Rattle.rb_compose.specs.Subvalues.{held_slots, subvalue_at}

-- Where bits come from -------------------------------------------------------------------------

-- the slots of the subvalue at a path, or none if none is there
abbrev pub field_slots : List Subvalue → List ℕ → List ℕ
field_slots xs path = held_slots (subvalue_at xs path)

-- which power of two an alignment from 2 to 64 is; 0 for any other number
abbrev pub shift_of : ℕ → ℕ
shift_of align =
    if align == 2 then 1 else if align == 4 then 2 else if align == 8 then 3
    else if align == 16 then 4 else if align == 32 then 5 else if align == 64 then 6 else 0

-- code that leaves bits o up to o + l of slot x in a new slot; none where o is 0, as they stand in x from bit 0 on
abbrev pub taken_code : ℕ → ℕ → ℕ → Sheet → Sheet
taken_code x o l b = if o == 0 then b else with_more (with_slot b) (I.Take b.slots x o l)

-- where `taken_code` leaves bits of slot x from bit o on: in the new slot n, or in x itself where o is 0
abbrev pub taken_slot : ℕ → ℕ → ℕ → ℕ
taken_slot x o n = if o == 0 then x else n

-- whether there is a type, and it is the integers of exactly l bits
abbrev pub is_int : ℕ → Option Ty → Bool
is_int l None = false
is_int l (Some (Int bits)) = bits == l
is_int l (Some (Named s)) = false

-- the type of a held value, or None if there is none
abbrev pub held_type_in : Option Held → Option Ty
held_type_in None = None
held_type_in (Some h) = Some h.ty

-- the type of the subvalue at a path, or None if none is there
abbrev pub field_type : List Subvalue → List ℕ → Option Ty
field_type xs path = held_type_in (subvalue_at xs path)

-- Words ----------------------------------------------------------------------------------------

-- the number n with the low l bits of a constant from bit o on, where both o and l are capped at 64; n as it is for a
-- part that is no constant, and where the range, so capped, has no bit or ends past bit 63
abbrev pub with_constant : ℕ → ℕ → ℕ → Kind → ℕ
with_constant n o l (Const c) =
    if is_range (capped_bits o) (capped_bits l)
    then put_of n (capped_bits o) (capped_bits l) (take_of c 0 (capped_bits l))
    else n
with_constant n o l (Bits path a) = n
with_constant n o l (Word path j) = n
with_constant n o l (Pointer align x) = n

-- the number n with the constants of the parts, each in its place
abbrev pub constants : ℕ → List Part → ℕ
constants n [] = n
constants n (p ∷ ps) = constants (with_constant n p.o p.l p.kind) ps

-- code that puts the `long` bits of slot x from bit `from` on, or the low ones that fit, into the range of part p in
-- slot d
abbrev pub put_code : ℕ → ℕ → ℕ → ℕ → Part → Sheet → Sheet
put_code d x from long p b =
    with_more (taken_code x from long b) (I.Put d (taken_slot x from b.slots) (capped_bits p.o) (capped_bits p.l))

-- code that puts what a part holds into its range in slot d; none for a constant, which is there already
abbrev pub kind_code : List Subvalue → List ℕ → ℕ → Part → Kind → Sheet → Sheet
kind_code hs blocks d p (Const c) b = b
kind_code hs blocks d p (Bits path a) b =
    put_code d (slice_index (field_slots hs path) 0) (capped_bits a) (capped_bits p.l) p b
kind_code hs blocks d p (Word path j) b = put_code d (slice_index (field_slots hs path) j) 0 64 p b
kind_code hs blocks d p (Pointer align x) b =
    put_code d (slice_index blocks x) (shift_of align) (64 - shift_of align) p b

-- whether a slot holds a part where it is to stand, and no other bit: a number or a word of a field from bit 0 on, or
-- an address whose alignment is, by `shift_of`, two to the power of the bit at which its part begins; never a
-- constant
abbrev pub is_ready : List Subvalue → ℕ → ℕ → Kind → Bool
is_ready hs o l (Const c) = false
is_ready hs o l (Bits path a) = (o == 0 && a == 0) && is_int l (field_type hs path)
is_ready hs o l (Word path j) = o == 0
is_ready hs o l (Pointer align x) = shift_of align == o

-- the slot that has the bits of a part; 0 for a constant, which needs none
abbrev pub source_slot : List Subvalue → List ℕ → Kind → ℕ
source_slot hs blocks (Const c) = 0
source_slot hs blocks (Bits path a) = slice_index (field_slots hs path) 0
source_slot hs blocks (Word path j) = slice_index (field_slots hs path) j
source_slot hs blocks (Pointer align x) = slice_index blocks x

-- code that adds a part to the word in slot d: beside it where a slot holds the part in its place, else put over it;
-- none for a constant, which is there already
abbrev pub part_code : List Subvalue → List ℕ → ℕ → Part → Sheet → Sheet
part_code hs blocks d p b =
    if is_ready hs p.o p.l p.kind then with_more b (I.Alu Or 64 d d (source_slot hs blocks p.kind))
    else kind_code hs blocks d p p.kind b

-- code that adds parts to the word in slot d, one after the other; none without parts
abbrev pub parts_code : List Subvalue → List ℕ → ℕ → List Part → Sheet → Sheet
parts_code hs blocks d [] b = b
parts_code hs blocks d (p ∷ ps) b = parts_code hs blocks d ps (part_code hs blocks d p b)

-- Code that makes, in a new slot, a word of what slot x holds and of parts. Where a slot holds the first part in its
-- place, it is set beside the other at once; else, and without parts, the word begins as a copy.
abbrev pub joined_code : List Subvalue → List ℕ → ℕ → List Part → Sheet → Sheet
joined_code hs blocks x [] b = with_more (with_slot b) (I.Copy b.slots x)
joined_code hs blocks x (p ∷ ps) b =
    if is_ready hs p.o p.l p.kind
    then parts_code hs blocks b.slots ps
    (with_more (with_slot b) (I.Alu Or 64 b.slots x (source_slot hs blocks p.kind)))
    else parts_code hs blocks b.slots (p ∷ ps) (with_more (with_slot b) (I.Copy b.slots x))

-- whether what a part holds is a constant
abbrev pub is_constant : Kind → Bool
is_constant (Const c) = true
is_constant (Bits path a) = false
is_constant (Word path j) = false
is_constant (Pointer align x) = false

-- the parts from the first on that is no constant
abbrev pub after_constants : List Part → List Part
after_constants [] = []
after_constants (p ∷ ps) = if is_constant p.kind then after_constants ps else p ∷ ps

-- whether a part is bits of a number that are to stand from bit 0 on
abbrev pub is_low : ℕ → Kind → Bool
is_low o (Const c) = false
is_low o (Bits path a) = o == 0
is_low o (Word path j) = false
is_low o (Pointer align x) = false

-- the first of the bits that a part has of a number; 0 for a part of another kind
abbrev pub low_bit : Kind → ℕ
low_bit (Const c) = 0
low_bit (Bits path a) = capped_bits a
low_bit (Word path j) = 0
low_bit (Pointer align x) = 0

-- Code that makes, in a new slot, a word whose constants are all 0. It begins as its first part, where a slot holds
-- that in its place, or where it is bits of a number from bit 0 on; else, and without parts, as 0.
abbrev pub begun_code : List Subvalue → List ℕ → List Part → Sheet → Sheet
begun_code hs blocks [] b = with_more (with_slot b) (I.Const b.slots 0)
begun_code hs blocks (p ∷ ps) b =
    if is_ready hs p.o p.l p.kind then joined_code hs blocks (source_slot hs blocks p.kind) (after_constants ps) b
    else if is_low p.o p.kind
    then parts_code hs blocks b.slots ps
    (with_more (with_slot b) (I.Take b.slots (source_slot hs blocks p.kind) (low_bit p.kind) (capped_bits p.l)))
    else parts_code hs blocks b.slots (p ∷ ps) (with_more (with_slot b) (I.Const b.slots 0))

-- code that makes a word of its parts, in the first slot that is new: it begins as its constants, or as `begun_code`
-- says where these are all 0, and the other parts are set beside that and put over it
abbrev pub word_code : List Subvalue → List ℕ → List Part → Sheet → Sheet
word_code hs blocks parts b =
    if constants 0 parts == 0 then begun_code hs blocks (after_constants parts) b
    else parts_code hs blocks b.slots parts (with_more (with_slot b) (I.Const b.slots (constants 0 parts)))

-- Words of fields ------------------------------------------------------------------------------

-- the word of a field, by path and number, that a part of l bits has whole, or None if it has none
abbrev pub whole_kind : List Subvalue → ℕ → Kind → Option (List ℕ × ℕ)
whole_kind hs l (Const c) = None
whole_kind hs l (Bits path a) = if a == 0 && is_int l (field_type hs path) then Some (path, 0) else None
whole_kind hs l (Word path j) = Some (path, j)
whole_kind hs l (Pointer align x) = None

-- the word of a field, by path and number, that a part has whole from bit 0 on, or None if it or the part is missing
abbrev pub whole_part : List Subvalue → Option Part → Option (List ℕ × ℕ)
whole_part hs None = None
whole_part hs (Some p) = if p.o == 0 then whole_kind hs p.l p.kind else None

-- the word of a field, by path and number, that a word with exactly one part is, or None if it is no such word
abbrev pub whole_of : List Subvalue → List Part → Option (List ℕ × ℕ)
whole_of hs parts = if length parts == 1 then whole_part hs (slice_get parts 0) else None

-- the slot of a word of a field that is given by path and number, or None if none is given
abbrev pub slot_of : List Subvalue → Option (List ℕ × ℕ) → Option ℕ
slot_of hs None = None
slot_of hs (Some w) = Some (slice_index (field_slots hs w.0) w.1)

-- the slot that holds a word of these parts already, as the word of a field, or None if it has to be composed
abbrev pub whole_slot : List Subvalue → List Part → Option ℕ
whole_slot hs parts = slot_of hs (whole_of hs parts)

-- code for a word to be stored, where the slot is given, if any, in which it stands already: none then, else the word
-- is composed of its parts
abbrev pub value_code : Option ℕ → List Subvalue → List ℕ → List Part → Sheet → Sheet
value_code None hs blocks parts b = word_code hs blocks parts b
value_code (Some x) hs blocks parts b = b

-- code for a word of these parts that is to be stored: none where it is the word of a field
abbrev pub value_made : List Subvalue → List ℕ → List Part → Sheet → Sheet
value_made hs blocks parts b = value_code (whole_slot hs parts) hs blocks parts b

-- the slot of a word to be stored: the one in which it stands already, or else the new slot n
abbrev pub value_slot : Option ℕ → ℕ → ℕ
value_slot None n = n
value_slot (Some x) n = x

-- code that leaves a root word in a slot of its own, where the slot is given, if any, in which it stands already:
-- copied from there, else composed of its parts
abbrev pub root_code : Option ℕ → List Subvalue → List ℕ → List Part → Sheet → Sheet
root_code None hs blocks parts b = word_code hs blocks parts b
root_code (Some x) hs blocks parts b = with_more (with_slot b) (I.Copy b.slots x)

-- code that leaves the root word of these parts in a slot of its own
abbrev pub root_made : List Subvalue → List ℕ → List Part → Sheet → Sheet
root_made hs blocks parts b = root_code (whole_slot hs parts) hs blocks parts b

-- Blocks ---------------------------------------------------------------------------------------

-- code that composes words and stores them one behind the other, from byte `at` on, in the block whose address is in
-- slot a; none without words
abbrev pub stores_code : List Subvalue → List ℕ → ℕ → List FlatWord → ℕ → Sheet → Sheet
stores_code hs blocks a [] at b = b
stores_code hs blocks a (f ∷ fs) at b =
    stores_code hs blocks a fs (at + f.width / 8)
    (with_more (value_made hs blocks f.parts b)
    (I.Store a at (capped_bits f.width) (value_slot (whole_slot hs f.parts) b.slots)))

-- code that places the block x, with its address in the first slot that is new, and stores its words there
abbrev pub block_code : List Subvalue → List ℕ → Block → Sheet → Sheet
block_code hs blocks x b =
    stores_code hs blocks b.slots x.words 0 (with_more (with_slot b) (I.Place b.slots (size_of x) x.align))

-- the sheet behind code that places and fills blocks, one after the other, and the slots of all addresses: those in
-- `blocks`, and behind them those of the new blocks
abbrev pub blocks_code : List Subvalue → List Block → List ℕ → Sheet → Sheet × List ℕ
blocks_code hs [] blocks b = (b, blocks)
blocks_code hs (x ∷ xs) blocks b = blocks_code hs xs (blocks ++ b.slots ∷ []) (block_code hs blocks x b)

-- The value ------------------------------------------------------------------------------------

-- code that leaves each of the root words in a slot of its own, in their order; none without words
abbrev pub roots_code : List Subvalue → List ℕ → List FlatWord → Sheet → Sheet
roots_code hs blocks [] b = b
roots_code hs blocks (f ∷ fs) b = roots_code hs blocks fs (root_made hs blocks f.parts b)

-- the slots in which `roots_code` leaves the root words, in their order
abbrev pub root_slots : List Subvalue → List ℕ → List FlatWord → Sheet → List ℕ
root_slots hs blocks [] b = []
root_slots hs blocks (f ∷ fs) b = b.slots ∷ root_slots hs blocks fs (root_made hs blocks f.parts b)

-- code that makes a value of a leaf: the leaf's blocks, inner ones first, and then its root words
abbrev pub leaf_code : List Subvalue → Leaf → Sheet → Sheet
leaf_code hs leaf b = let placed = blocks_code hs leaf.blocks [] b in roots_code hs placed.1 leaf.root placed.0

-- the slots in which `leaf_code` leaves the root words, in their order
abbrev pub leaf_slots : List Subvalue → Leaf → Sheet → List ℕ
leaf_slots hs leaf b = let placed = blocks_code hs leaf.blocks [] b in root_slots hs placed.1 leaf.root placed.0
