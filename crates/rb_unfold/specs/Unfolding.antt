-- The words of a leaf, each block's words where the pointer to it stands: of a flat leaf, and as they are written.
use Rattle.std.specs.Prelude.{◌≡◌, ℕ, zero, suc, List, [], ◌∷◌, ◌++◌, map, length, Some}
use Rattle.std.specs.List.{flat_map}
use Rattle.rb_core.specs.declared.types.DataDecl.{DataDecl}
use Rattle.rb_core.specs.declared.layout_decl.LayItem.{LayItem}
use Rattle.rb_core.specs.declared.layout_decl.LayItem.TheOpen as I
use Rattle.rb_core.specs.declared.layout_decl.LayItem.TheOpen.{LayItem-F, PartKind-F, PartDecl-F}
use Rattle.rb_core.specs.declared.layout_decl.LayItem.TheFolds.{fold-LayItem}
use Rattle.rb_core.specs.declared.layout_decl.LayoutDecl.{LayoutDecl}
use Rattle.rb_core.specs.Layouts.{WrittenLeaf}
use Rattle.rb_layout.specs.declared.layout.Leaf.{Leaf}
use Rattle.rb_layout.specs.declared.layout.FlatWord.{FlatWord}
use Rattle.rb_layout.specs.declared.layout.Part.{Part}
use Rattle.rb_layout.specs.declared.layout.Kind.{Kind}
use Rattle.rb_layout.specs.declared.layout.Kind.TheVariants.{Const, Bits, Word, Pointer}
use Rattle.rb_layout.specs.Positions.{Open, open_positions}
use Rattle.rb_layout.specs.Words.{words_in}
use Rattle.rb_layout.specs.Flattening.{type_at, words_inlined, flat_leaf}
use Rattle.rb_layout.specs.Items.{Content, Number, Whole, Slice, WordOf, Address}
use Rattle.rb_layout.specs.Placing.{Standing, standing_of, parts_in_place, part_placed}

-- what is seen of a leaf, one after the other, as in its text
pub data Seen : Type 0 where
  Begins : ℕ → Seen  -- a word of so many bits
  Has : Standing → Seen  -- a part of the word
  Opens : Seen  -- the block to which the part points: its words follow
  Closes : Seen  -- the block ends: what follows is the next part of the word that points to it, or the next word

-- what is seen of a block, where `seen` is what is seen of its words
abbrev pub in_block : List Seen → List Seen
in_block seen = Opens ∷ seen ++ Closes ∷ []

-- Of a flat leaf ------------------------------------------------------------------------------

-- what is seen behind a part, where `block b` is what is seen of block b: only a pointer has a block
abbrev pub seen_behind : (ℕ → List Seen) → Kind → List Seen
seen_behind block (Const c) = []
seen_behind block (Bits path a) = []
seen_behind block (Word path j) = []
seen_behind block (Pointer align b) = in_block (block b)

-- what is seen of a part in a word of this width: the part, and behind a pointer its block,
-- where `block b` is what is seen of block b
abbrev pub part_seen : (ℕ → List Seen) → ℕ → Part → List Seen
part_seen block width p = Has (standing_of width p) ∷ seen_behind block p.kind

-- what is seen of a word: its width, then its parts one after the other, where `block b` is what is seen of block b
abbrev pub word_seen : (ℕ → List Seen) → FlatWord → List Seen
word_seen block f = Begins f.width ∷ flat_map (part_seen block f.width) f.parts

-- what is seen of flat words, one after the other, where `block b` is what is seen of block b
abbrev pub words_seen : (ℕ → List Seen) → List FlatWord → List Seen
words_seen block words = flat_map (word_seen block) words

-- what is seen of block b and of those that it leads to, through fewer than `depth` pointers more
abbrev pub block_seen : Leaf → ℕ → ℕ → List Seen
block_seen leaf zero b = []
block_seen leaf (suc depth) b = words_seen (block_seen leaf depth) (words_in leaf (Some b))

-- all that is seen of a leaf along its pointers: these lead from a block to blocks of lower numbers, so no way along
-- them passes more blocks than the leaf has
abbrev pub leaf_unfolding : Leaf → List Seen
leaf_unfolding leaf = words_seen (block_seen leaf (length leaf.blocks)) leaf.root

-- As it is written ----------------------------------------------------------------------------

-- something, and what is written inside it
pub record Nested (A : Type 0) : Type 0 where
  pub it : A
  pub inside : List Seen

-- something with nothing written inside it
abbrev pub alone : {A : Type 0} → A → Nested A
alone x = record { it = x; inside = [] }

-- what a part is written to hold, and what is written behind a pointer
abbrev pub kind_step : PartKind-F (List Seen) (Nested Content) (ℕ → List Seen) → Nested Content
kind_step (I.Const c) = alone (Number c)
kind_step (I.Whole path) = alone (Whole path)
kind_step (I.Slice path a k) = alone (Slice path a k)
kind_step (I.PartKind::Word path j) = alone (WordOf path j)
kind_step (I.Pointer align items) = record { it = Address align; inside = in_block (flat_map (λ item. item) items) }

-- a part in a word of this width: what is placed for it, and what is written behind it
abbrev pub part_step : List Open → PartDecl-F (List Seen) (Nested Content) (ℕ → List Seen) → ℕ → List Seen
part_step opens p width =
    map Has (part_placed opens width (record { o = p.o; l = p.l; content = p.kind.it })) ++ p.kind.inside

-- a word of an inlined field: it has no pointers
abbrev pub seen_word : FlatWord → List Seen
seen_word f = Begins f.width ∷ map Has (parts_in_place f)

-- what is written of an item: a word with its parts, or the words of the field at a path
abbrev pub item_step : List LayoutDecl → List Open → LayItem-F (List Seen) (Nested Content) (ℕ → List Seen) → List Seen
item_step decls opens (I.LayItem::Word width parts) = Begins width ∷ flat_map (λ part. part width) parts
item_step decls opens (I.Inline path) = flat_map seen_word (words_inlined decls (type_at opens path) path)

-- what is written of an item of a leaf, where `opens` are the leaf's open positions
abbrev pub item_written : List LayoutDecl → List Open → LayItem → List Seen
item_written decls opens =
    fold-LayItem (List Seen) (Nested Content) (ℕ → List Seen) (item_step decls opens) kind_step (part_step opens)

-- what is written of a leaf, item by item
abbrev pub leaf_written : List DataDecl → List LayoutDecl → WrittenLeaf → List Seen
leaf_written types decls w = flat_map (item_written decls (open_positions types w.provenance)) w.items

-- the flat form of a leaf, unfolded along its pointers, gives back what is written of it
abbrev pub UnfoldingGivesBack : Type 0
UnfoldingGivesBack = (types : List DataDecl) (decls : List LayoutDecl) (w : WrittenLeaf)
    → leaf_unfolding (flat_leaf types decls w) ≡ leaf_written types decls w
