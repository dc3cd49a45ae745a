-- The text of layouts, line by line. A piece of a word is one of its parts, or a range of bits that no part holds. A
-- leaf of a layout has the root words of the values of one pattern, its provenance, and the blocks to which their
-- pointers lead. A split goes by the bits at a location: each of its arms is for a literal, a number that they may
-- be.
use Rattle.std.specs.Prelude.{ℕ, ◌+◌, List, [], ◌∷◌, ◌++◌, codes, Option, Some, None, slice_get}
use Rattle.std.specs.Fmt.{decimal}
use Rattle.std.specs.List.{flat_map}
use Rattle.rb_core.specs.declared.types.DataDecl.{DataDecl}
use Rattle.rb_core.specs.Texts.{pattern_text, type_name}
use Rattle.rb_layout.specs.declared.layout.Layout.{Layout}
use Rattle.rb_layout.specs.declared.layout.Leaf.{Leaf}
use Rattle.rb_layout.specs.declared.layout.Block.{Block}
use Rattle.rb_layout.specs.declared.layout.FlatWord.{FlatWord}
use Rattle.rb_layout.specs.declared.layout.Kind.{Kind}
use Rattle.rb_layout.specs.declared.layout.Kind.TheVariants.{Const, Bits, Word, Pointer}
use Rattle.rb_layout.specs.Splits.{Test, Is, IsNone, Route, routes_of}
use Rattle.rb_layout.specs.Words.{begins_at, size_of}
use Rattle.rb_show.specs.Locations.{range_text, loc_text}
use Rattle.rb_show.specs.Pieces.{WordPiece, Held, Free, pieces_of}

-- a text with the end of its line behind it
abbrev pub line : List ℕ → List ℕ
line text = text ++ codes "\n"

-- the texts that f gives for the things of a list, one after the other, each by its number, where the first has n
abbrev pub numbered_texts : {X : Type 0} → (ℕ → X → List ℕ) → ℕ → List X → List ℕ
numbered_texts f n [] = []
numbered_texts f n (x ∷ xs) = f n x ++ numbered_texts f (n + 1) xs

-- Words -------------------------------------------------------------------------------------

-- a path, as the numbers of its fields, each behind a point
abbrev pub path_text : List ℕ → List ℕ
path_text path = flat_map (λ i. codes "." ++ decimal i) path

-- what a part of l bits holds: a constant, bits or a word of a field, or a pointer to a block
abbrev pub kind_text : ℕ → Kind → List ℕ
kind_text l (Const c) = codes "= " ++ decimal c
kind_text l (Bits path a) = codes "field " ++ path_text path ++ codes " bits " ++ range_text a l
kind_text l (Word path j) = codes "field " ++ path_text path ++ codes " word " ++ decimal j
kind_text l (Pointer align b) = codes "pointer to block " ++ decimal b

-- the line of a piece of a word: its range of bits, and what it holds or that it is free
abbrev pub piece_line : WordPiece → List ℕ
piece_line (Held p) = line (codes "  " ++ range_text p.o p.l ++ codes " " ++ kind_text p.l p.kind)
piece_line (Free o l) = line (codes "  " ++ range_text o l ++ codes " free")

-- the lines of all pieces of a word, from bit to bit
abbrev pub piece_lines : FlatWord → List ℕ
piece_lines word = flat_map piece_line (pieces_of word)

-- the end of a word's first line, which says its width, and the lines of its pieces
abbrev pub width_lines : FlatWord → List ℕ
width_lines word = line (codes ": " ++ decimal word.width ++ codes " bits") ++ piece_lines word

-- the lines of word i of a leaf's root
abbrev pub root_word_lines : ℕ → FlatWord → List ℕ
root_word_lines i word = codes "word " ++ decimal i ++ width_lines word

-- the lines of word i of a block, where it begins at this byte
abbrev pub word_lines_at : ℕ → ℕ → FlatWord → List ℕ
word_lines_at byte i word = codes "word " ++ decimal i ++ codes " at byte " ++ decimal byte ++ width_lines word

-- the lines of word i of a block with these words, by which the byte where it begins is found
abbrev pub block_word_lines : List FlatWord → ℕ → FlatWord → List ℕ
block_word_lines words i word = word_lines_at (begins_at words i) i word

-- the end of a block's first line: its size in bytes and its alignment
abbrev pub size_line : ℕ → ℕ → List ℕ
size_line size align = line (codes ": " ++ decimal size ++ codes " bytes, align " ++ decimal align)

-- the first line of block i of a leaf: its number, its size in bytes and its alignment
abbrev pub block_line : ℕ → ℕ → ℕ → List ℕ
block_line i size align = codes "block " ++ decimal i ++ size_line size align

-- the lines of block i of a leaf: its first line, then those of its words, numbered from 0
abbrev pub block_lines : ℕ → Block → List ℕ
block_lines i block = block_line i (size_of block) block.align
    ++ numbered_texts (block_word_lines block.words) 0 block.words

-- Leaves ------------------------------------------------------------------------------------

-- one more literal behind another, with a comma between them
abbrev pub other_literal : ℕ → List ℕ
other_literal d = codes ", " ++ decimal d

-- the text that none of a split's literals stands at its location; ` any` where the split has no literal
abbrev pub none_text : List ℕ → List ℕ
none_text [] = codes " any"
none_text (c ∷ cs) = codes " not " ++ decimal c ++ flat_map other_literal cs

-- the line of what a split asks of a leaf: that a literal stands at its location, or none of its literals does
abbrev pub condition_line : Test → List ℕ
condition_line (Is loc c) = line (codes "when " ++ loc_text loc ++ codes " = " ++ decimal c)
condition_line (IsNone loc cs) = line (codes "when " ++ loc_text loc ++ none_text cs)

-- the lines of a leaf: its provenance, the conditions of the splits above it, its root words and its blocks
abbrev pub leaf_lines : List DataDecl → List ℕ → Leaf → List ℕ
leaf_lines types conditions leaf =
    line (codes "leaf " ++ pattern_text types leaf.prov) ++ conditions
    ++ numbered_texts root_word_lines 0 leaf.root ++ numbered_texts block_lines 0 leaf.blocks

-- the lines of a leaf that was looked up, with those of its conditions; nothing where no leaf was found
abbrev pub found_lines : List DataDecl → List ℕ → Option Leaf → List ℕ
found_lines types conditions None = []
found_lines types conditions (Some leaf) = leaf_lines types conditions leaf

-- the lines of the leaf to which a way through the splits leads, the condition of the outermost split first
abbrev pub route_lines : List DataDecl → List Leaf → Route → List ℕ
route_lines types leaves route = found_lines types (flat_map condition_line route.tests) (slice_get leaves route.leaf)

-- Layouts -----------------------------------------------------------------------------------

-- the first line of a layout: the name of its type, which has the number t
abbrev pub type_line : List DataDecl → ℕ → List ℕ
type_line types t = line (codes "type " ++ type_name (slice_get types t))

-- the lines of a layout: that of its type, and then its leaves from left to right
abbrev pub layout_lines : List DataDecl → Layout → List ℕ
layout_lines types layout =
    type_line types layout.ty ++ flat_map (route_lines types layout.leaves) (routes_of layout.tree)

-- the text of layouts, one after the other in this order
abbrev pub layouts_text : List DataDecl → List Layout → List ℕ
layouts_text types layouts = flat_map (layout_lines types) layouts
