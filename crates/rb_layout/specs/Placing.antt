-- What stands in the words of a flat leaf, and what is written there. The items of a leaf are its words and inlined
-- fields as they are written, those behind pointers among them. A part is a range of l bits of a word, from bit o on.
-- A path names a field; it is open where the leaf's provenance has an open position there, and else nothing is placed
-- for it.
use Rattle.std.specs.Prelude.{◌≡◌, ℕ, List, [], ◌∷◌, ◌++◌, map, sum_by, Option, Some, None}
use Rattle.std.specs.List.{flat_map}
use Rattle.rb_core.specs.declared.types.Ty.{Ty}
use Rattle.rb_core.specs.declared.types.Ty.TheVariants.{Int, Named}
use Rattle.rb_core.specs.declared.types.DataDecl.{DataDecl}
use Rattle.rb_core.specs.declared.layout_decl.LayoutDecl.{LayoutDecl}
use Rattle.rb_core.specs.Layouts.{WrittenLeaf}
use Rattle.rb_layout.specs.declared.layout.Leaf.{Leaf}
use Rattle.rb_layout.specs.declared.layout.Block.{Block}
use Rattle.rb_layout.specs.declared.layout.FlatWord.{FlatWord}
use Rattle.rb_layout.specs.declared.layout.Part.{Part}
use Rattle.rb_layout.specs.declared.layout.Kind.{Kind}
use Rattle.rb_layout.specs.declared.layout.Kind.TheVariants.{Const, Bits, Word, Pointer}
use Rattle.rb_layout.specs.Positions.{Open, open_positions}
use Rattle.rb_layout.specs.Flattening.{type_at, words_inlined, flat_leaf}
use Rattle.rb_layout.specs.Items.{Content, Number, Whole, Slice, WordOf, Address, WrittenPart, Item, AWord, AField, item_lists}

-- a part as it stands: its word's width, its range of l bits from bit o, and what it holds, for a pointer only the
-- unit that it counts in and not the number of its block
pub record Standing : Type 0 where
  pub width : ℕ
  pub o : ℕ
  pub l : ℕ
  pub holds : Content

-- what a flat part of l bits holds, in the terms of what is written: bits from bit a on are a slice of l bits
abbrev pub content_shown : ℕ → Kind → Content
content_shown l (Const c) = Number c
content_shown l (Bits path a) = Slice path a l
content_shown l (Word path j) = WordOf path j
content_shown l (Pointer align b) = Address align

-- the record of a part: the width of its word, its range, and what it holds as it is written
abbrev pub standing_of : ℕ → Part → Standing
standing_of width p = record { width = width; o = p.o; l = p.l; holds = content_shown p.l p.kind }

-- the parts of a flat word as they stand, in their order
abbrev pub parts_in_place : FlatWord → List Standing
parts_in_place f = map (standing_of f.width) f.parts

-- the parts of a block's words as they stand, word by word
abbrev pub standing_in : Block → List Standing
standing_in b = flat_map parts_in_place b.words

-- all parts of a leaf as they stand: those of the root words, and then those of each block
abbrev pub all_standing : Leaf → List Standing
all_standing leaf = flat_map parts_in_place leaf.root ++ flat_map standing_in leaf.blocks

-- What is placed for a part of l bits that is written to hold the whole field at a path, given the type at this path:
-- of an integer, the slice of l bits from bit 0; of a data type, its word 0; where the path is not open, nothing.
abbrev pub whole_placed : Option Ty → List ℕ → ℕ → List Content
whole_placed None path l = []
whole_placed (Some (Int bits)) path l = Slice path 0 l ∷ []
whole_placed (Some (Named s)) path l = WordOf path 0 ∷ []

-- what is placed for a part with this content, given the type at its path: the content itself, and nothing where the
-- path is not open
abbrev pub if_open : Option Ty → Content → List Content
if_open None content = []
if_open (Some ty) content = content ∷ []

-- What is placed for a part of l bits that is written with this content, given the open positions of the leaf. A
-- number or a pointer is placed as it is. What names a path is placed where that is open; a slice is then as long as
-- the part, whatever length is written.
abbrev pub content_placed : List Open → ℕ → Content → List Content
content_placed opens l (Number c) = Number c ∷ []
content_placed opens l (Whole path) = whole_placed (type_at opens path) path l
content_placed opens l (Slice path a k) = if_open (type_at opens path) (Slice path a l)
content_placed opens l (WordOf path j) = if_open (type_at opens path) (WordOf path j)
content_placed opens l (Address align) = Address align ∷ []

-- a written part of a word of this width, as it is placed: in the same range, or nothing where its path is not open
abbrev pub part_placed : List Open → ℕ → WrittenPart → List Standing
part_placed opens width p =
    map (λ content. record { width = width; o = p.o; l = p.l; holds = content }) (content_placed opens p.l p.content)

-- What is placed for an item, given the declared layouts and the leaf's open positions. For a word these are its own
-- parts; what is behind its pointers are items of their own. For a field these are the parts of its words, and
-- nothing where the path is not open.
abbrev pub parts_placed : List LayoutDecl → List Open → Item → List Standing
parts_placed decls opens (AWord width parts) = flat_map (part_placed opens width) parts
parts_placed decls opens (AField path) = flat_map parts_in_place (words_inlined decls (type_at opens path) path)

-- The law: the parts of a flat leaf are those that are placed for what is written, each as often as it is written, in
-- whatever order. Said without an order: whatever weight a part is given by how it stands, the parts that stand in
-- the leaf weigh as much in all as those that are placed for its items.
abbrev pub EachStandsOnce : Type 0
EachStandsOnce = (types : List DataDecl) (decls : List LayoutDecl) (w : WrittenLeaf) (weight : Standing → ℕ)
    → sum_by weight (all_standing (flat_leaf types decls w))
    ≡ sum_by weight (flat_map (parts_placed decls (open_positions types w.provenance)) (item_lists w.items))
