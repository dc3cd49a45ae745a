-- The parts of a leaf, examined on words of an image, and the places below it. A part is a range of a word of the
-- leaf: a constant, bits or a word of a field, or a pointer to one of the leaf's blocks. A position is what a leaf's
-- provenance, its pattern of values, has at a path, a list of field numbers from its root; it is open where the
-- pattern is a wildcard or a name, so that any value may stand there. m has the blocks of an image, ws are the words
-- of the place, so of the leaf's root, and ats the addresses of the leaf's blocks by number, 0 for one that is not
-- known.
use Rattle.std.specs.Prelude.{ℕ, zero, suc, ◌+◌, ◌*◌, ◌==◌, ◌&&◌, List, [], ◌∷◌, length, map, replicate, Bool, false, Option, Some, None, Result, Ok, Err, slice_get, slice_index, slice_set, if◌then◌else◌, unwrap_or}
use Rattle.std.specs.List.{flat_map}
use Rattle.rb_core.specs.declared.types.Ty.{Ty}
use Rattle.rb_core.specs.declared.types.Ty.TheVariants.{Int, Named}
use Rattle.rb_core.specs.declared.types.DataDecl.{DataDecl}
use Rattle.rb_layout.specs.declared.layout.Block.{Block}
use Rattle.rb_layout.specs.declared.layout.Leaf.{Leaf}
use Rattle.rb_layout.specs.declared.layout.Layout.{Layout}
use Rattle.rb_layout.specs.declared.layout.Kind.{Kind}
use Rattle.rb_layout.specs.declared.layout.Kind.TheVariants.{Const, Bits, Word, Pointer}
use Rattle.rb_layout.specs.Flattening.{same_path}
use Rattle.rb_layout.specs.Positions.{Open, layout_of, open_positions}
use Rattle.rb_layout.specs.Words.{size_of}
use Rattle.rb_rel.specs.Relation.{word_count}
use Rattle.rb_image_text.specs.declared.fault.ImageFault.{ImageFault}
use Rattle.rb_image_text.specs.declared.fault.ImageFault.TheVariants.{BadBits, BadPointer}
use Rattle.rb_image_text.specs.declared.image.ImageBlock.{ImageBlock}
use Rattle.rb_image.specs.declared.kept.Kept.{Kept}
use Rattle.rb_image.specs.declared.kept.Place.{Place}
use Rattle.rb_image.specs.Blocks.{size_at, word_in}
use Rattle.rb_image.specs.Orders.{LocatedPart, order_of}
use Rattle.rb_image.specs.Splits.{and_then, nothing, or_fault, pointed_from, range_of, word_at, leaf_at}

-- Parts --------------------------------------------------------------------------------------

-- the word that part s is of: a root word where it is in no block, else one of the block with this number, by the
-- addresses of the leaf's blocks; its number is 0 where no such word is there
abbrev pub kept_at : List ImageBlock → List Kept → List ℕ → Option ℕ → LocatedPart → Kept
kept_at m ws ats None s = word_at ws s.word
kept_at m ws ats (Some b) s =
    record {
      number = unwrap_or (word_in m (slice_index ats b) s.byte s.width) 0;
      base = slice_index ats b;
      place = s.byte;
    }

-- the bits of part s, and where they are kept: a range of the word that the part is of
abbrev pub bits_at : List ImageBlock → List Kept → List ℕ → LocatedPart → Kept
bits_at m ws ats s = range_of (kept_at m ws ats s.block s) s.part.o s.part.l

-- the size in bytes of a leaf's block, 0 where there is none
abbrev pub block_size : Option Block → ℕ
block_size None = 0
block_size (Some b) = size_of b

-- the address `at`, where there is a size and it is the wanted one; else none
abbrev pub if_size : ℕ → ℕ → Option ℕ → Option ℕ
if_size at wanted None = None
if_size at wanted (Some size) = if size == wanted then Some at else None

-- the address, where there is one and a block of this size begins at it; else none
abbrev pub block_from : List ImageBlock → Option ℕ → ℕ → Option ℕ
block_from m None size = None
block_from m (Some at) size = if_size at size (size_at m at)

-- the address to which the bits of a pointer to the leaf's block b lead, or `BadPointer` where no block of the size
-- of that begins there, or, from within a block, it is not below that
abbrev pub pointer_lead : List ImageBlock → Leaf → Kept → ℕ → ℕ → Result ℕ ImageFault
pointer_lead m leaf bits align b =
    let at = bits.number * align in
    or_fault (block_from m (pointed_from bits.base at) (block_size (slice_get leaf.blocks b))) (BadPointer bits.base at)

-- the addresses of a leaf's blocks, `ats` before, once a part of this kind with these bits is examined: a constant
-- is its number, and a pointer leads to a block of the size of the leaf's block, whose address is noted; or the
-- fault where it is not so
abbrev pub examine_kind : List ImageBlock → Leaf → List ℕ → Kept → Kind → Result (List ℕ) ImageFault
examine_kind m leaf ats bits (Bits path a) = Ok ats
examine_kind m leaf ats bits (Word path j) = Ok ats
examine_kind m leaf ats bits (Const c) = if bits.number == c then Ok ats else Err (BadBits bits.base bits.place)
examine_kind m leaf ats bits (Pointer align b) = and_then (pointer_lead m leaf bits align b)
    (λ at. Ok (slice_set ats b at))

-- the addresses of a leaf's blocks once part s is examined, where ws are the words of the root, or the part's fault
abbrev pub examine_part : List ImageBlock → Leaf → List Kept → List ℕ → LocatedPart → Result (List ℕ) ImageFault
examine_part m leaf ws ats s = examine_kind m leaf ats (bits_at m ws ats s) s.part.kind

-- the addresses of a leaf's blocks once these parts are examined, one after the other, or the first fault of one
abbrev pub examine : List ImageBlock → Leaf → List Kept → List ℕ → List LocatedPart → Result (List ℕ) ImageFault
examine m leaf ws ats [] = Ok ats
examine m leaf ws ats (s ∷ ss) = and_then (examine_part m leaf ws ats s) (λ found. examine m leaf ws found ss)

-- the addresses of a leaf's blocks by number, where ws are the words of the root, or the first fault of its parts; 0
-- for a block to which no pointer leads
abbrev pub addresses_of : List ImageBlock → Leaf → List Kept → Result (List ℕ) ImageFault
addresses_of m leaf ws = examine m leaf ws (replicate (length leaf.blocks) 0) (order_of leaf)

-- Subvalues ----------------------------------------------------------------------------------

-- a place where a value of a data type is to stand: the type's number, and the words
pub record At : Type 0 where
  pub ty : ℕ
  pub words : List Kept

-- the place that a `Place` of the code is
abbrev pub at_of : Place → At
at_of p = record { ty = p.ty; words = p.words.items }

-- the places that `Place`s of the code are, in their order
abbrev pub ats_of : List Place → List At
ats_of places = map at_of places

-- whether a part of this kind is word j of the field at a path
abbrev pub is_field_word : Kind → List ℕ → ℕ → Bool
is_field_word (Const c) path j = false
is_field_word (Bits own a) path j = false
is_field_word (Word own i) path j = same_path own path && (i == j)
is_field_word (Pointer align b) path j = false

-- word j of the field at a path: the bits of the first of these parts that holds it; the number 0 where none does
abbrev pub field_word : List ImageBlock → List Kept → List ℕ → List LocatedPart → List ℕ → ℕ → Kept
field_word m ws ats [] path j = nothing
field_word m ws ats (s ∷ ss) path j =
    if is_field_word s.part.kind path j then bits_at m ws ats s else field_word m ws ats ss path j

-- n words of the field at a path, from word j on, where `word` gives each of them
abbrev pub field_words : (List ℕ → ℕ → Kept) → List ℕ → ℕ → ℕ → List Kept
field_words word path j zero = []
field_words word path j (suc n) = word path j ∷ field_words word path (j + 1) n

-- the place at an open position, alone in a list, where `word` gives its words; none for an integer
abbrev pub place_at : List Layout → (List ℕ → ℕ → Kept) → List ℕ → Ty → List At
place_at layouts word path (Int bits) = []
place_at layouts word path (Named t) =
    record { ty = t; words = field_words word path 0 (word_count layouts (Named t)) } ∷ []

-- the places at those open positions of a leaf that are of a data type, from left to right
abbrev pub places_of_leaf : List DataDecl → List Layout → List ImageBlock → Leaf → List Kept → List ℕ → List At
places_of_leaf types layouts m leaf ws ats =
    flat_map (λ (o : Open). place_at layouts (field_word m ws ats (order_of leaf)) o.path o.ty)
    (open_positions types leaf.prov)

-- One place ----------------------------------------------------------------------------------

-- the places below a leaf, where ws are the words of its root, or the first fault of its parts; none where there is
-- no leaf
abbrev pub look_leaf : List DataDecl → List Layout → List ImageBlock → List Kept → Option Leaf
    → Result (List At) ImageFault
look_leaf types layouts m ws None = Ok []
look_leaf types layouts m ws (Some leaf) =
    and_then (addresses_of m leaf ws) (λ ats. Ok (places_of_leaf types layouts m leaf ws ats))

-- the places below the leaf to which the splits of a layout lead on the words ws, or the first fault of the splits or
-- of that leaf's parts; none where there is no layout
abbrev pub look_layout : List DataDecl → List Layout → List ImageBlock → List Kept → Option Layout
    → Result (List At) ImageFault
look_layout types layouts m ws None = Ok []
look_layout types layouts m ws (Some layout) =
    and_then (leaf_at layout.tree m ws) (λ n. look_leaf types layouts m ws (slice_get layout.leaves n))

-- the first fault of a place by itself, of its splits before its parts, or the places below it
abbrev pub look : List DataDecl → List Layout → List ImageBlock → At → Result (List At) ImageFault
look types layouts m p = look_layout types layouts m p.words (layout_of layouts p.ty)
