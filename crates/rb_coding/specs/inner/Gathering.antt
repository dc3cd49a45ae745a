-- Tables that are gathered from the parts of a leaf: the addresses of its blocks, or the words of one of its fields,
-- as `wanted` tells. Each part that has an entry of the table puts it there: a place in the table, and the number for
-- it. A leaf is the form that a layout has for some values; its words are flat, each with parts, ranges of its bits,
-- which hold a constant, bits or a word of the field at a path of field numbers, or a pointer to a block.
use Rattle.std.specs.Prelude.{ℕ, ◌+◌, ◌*◌, ◌%◌, List, [], ◌∷◌, length, replicate, Option, Some, None, slice_index, slice_index_or, slice_set, if◌then◌else◌}
use Rattle.rb_core.specs.declared.types.Ty.{Ty}
use Rattle.rb_core.specs.declared.types.DataDecl.{DataDecl}
use Rattle.rb_bits.specs.Words.{take_of}
use Rattle.rb_layout.specs.declared.layout.Block.{Block}
use Rattle.rb_layout.specs.declared.layout.FlatWord.{FlatWord}
use Rattle.rb_layout.specs.declared.layout.Kind.{Kind}
use Rattle.rb_layout.specs.declared.layout.Kind.TheVariants.{Const, Bits, Word, Pointer}
use Rattle.rb_layout.specs.declared.layout.Layout.{Layout}
use Rattle.rb_layout.specs.declared.layout.Leaf.{Leaf}
use Rattle.rb_layout.specs.declared.layout.Part.{Part}
use Rattle.rb_layout.specs.Flattening.{same_path, type_at}
use Rattle.rb_layout.specs.Positions.{open_positions}
use Rattle.rb_rel.specs.Relation.{word_count}
use Rattle.rb_coding.specs.Packing.{put_into}
use Rattle.rb_coding.specs.declared.gather.Wanted.{Wanted}
use Rattle.rb_coding.specs.declared.gather.Wanted.TheVariants.{Addresses, Field}

-- The entry of the table for which a part of l bits stands, and what it is to be, where n is the number in the part's
-- bits. Of the addresses, a pointer to block b has entry b: the address, which is n times the alignment, modulo 2 ^ 64;
-- no other part has one. Of the words of the field at `path`, the part with its word j has entry j: n; and one with its
-- bits from a on has entry 0: n, put in from bit a on of `first`, what that entry is so far. A constant, a pointer and
-- a part of another field have none.
abbrev pub entry : Wanted → List ℕ → ℕ → ℕ → ℕ → Kind → Option (ℕ × ℕ)
entry Addresses path first n l (Const c) = None
entry Addresses path first n l (Bits own a) = None
entry Addresses path first n l (Word own j) = None
entry Addresses path first n l (Pointer align b) = Some (b, n * align % 18446744073709551616)
entry Field path first n l (Const c) = None
entry Field path first n l (Bits own a) = if same_path own path then Some (0, put_into first a l n) else None
entry Field path first n l (Word own j) = if same_path own path then Some (j, n) else None
entry Field path first n l (Pointer align b) = None

-- a table with an entry, a number and what stands there, put in; the table as it is where there is no entry
abbrev pub put_entry : List ℕ → Option (ℕ × ℕ) → List ℕ
put_entry table None = table
put_entry table (Some e) = slice_set table e.0 e.1

-- the table once a part of a word, which has the value w, has put its entry, if it has one
abbrev pub put_part : Wanted → List ℕ → ℕ → List ℕ → Part → List ℕ
put_part wanted path w table p =
    put_entry table (entry wanted path (slice_index table 0) (take_of w p.o p.l) p.l p.kind)

-- the table once the parts of a word, which has the value w, have put their entries, from the first part to the last
abbrev pub put_parts : Wanted → List ℕ → ℕ → List Part → List ℕ → List ℕ
put_parts wanted path w [] table = table
put_parts wanted path w (p ∷ ps) table = put_parts wanted path w ps (put_part wanted path w table p)

-- the table once the parts of flat words have put their entries; the value of the first is word j of `ws`, and so on
abbrev pub put_words : Wanted → List ℕ → List FlatWord → List ℕ → ℕ → List ℕ → List ℕ
put_words wanted path [] ws j table = table
put_words wanted path (f ∷ fs) ws j table =
    put_words wanted path fs ws (j + 1) (put_parts wanted path (slice_index ws j) f.parts table)

-- the table of the field at a path once the parts of blocks have put their entries, where `loaded` has the words of
-- these blocks, the last block's first
abbrev pub put_blocks : List ℕ → List Block → List (List ℕ) → List ℕ → List ℕ
put_blocks path [] loaded table = table
put_blocks path (b ∷ bs) loaded table =
    put_blocks path bs loaded (put_words Field path b.words (slice_index_or loaded (length bs) []) 0 table)

-- how many words represent a value of a type; 0 where no type is given
abbrev pub count_at : List Layout → Option Ty → ℕ
count_at layouts None = 0
count_at layouts (Some ty) = word_count layouts ty

-- the words of the field at a path of a leaf, from its root words `ws` and its blocks' words, the last block's first
abbrev pub field_words : List DataDecl → List Layout → Leaf → List ℕ → List (List ℕ) → List ℕ → List ℕ
field_words types layouts leaf ws loaded path =
    put_blocks path leaf.blocks loaded
    (put_words Field path leaf.root ws 0
    (replicate (count_at layouts (type_at (open_positions types leaf.prov) path)) 0))
