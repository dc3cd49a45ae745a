-- A value's leaf in an image, and the words of it. A split chooses a leaf by bits of the value's words; a part is a
-- range of a word of a leaf, narrow if it lies among 64 bits. Words are few and short if the root and each block
-- have at most 64, each of at most 64 bits. m has the blocks of an image, and ws are the words of the value, so of
-- the leaf's root.
use Rattle.std.specs.Prelude.{◌≡◌, ℕ, ◌+◌, length, List, Option, Some, Result, Ok, slice_get}
use Rattle.std.specs.List.{sum_by}
use Rattle.rb_core.specs.declared.program.Program.{Program}
use Rattle.rb_core.specs.TypedPrograms.{IsTyped}
use Rattle.rb_layout.specs.declared.layout.Layout.{Layout}
use Rattle.rb_layout.specs.declared.layout.Leaf.{Leaf}
use Rattle.rb_layout.specs.Agreement.{Agrees}
use Rattle.rb_layout.specs.Flattening.{flat_layouts}
use Rattle.rb_layout.specs.Positions.{layout_of}
use Rattle.rb_layout.specs.Readable.{IsReadable}
use Rattle.rb_image_text.specs.declared.fault.ImageFault.{ImageFault}
use Rattle.rb_image_text.specs.declared.image.ImageBlock.{ImageBlock}
use Rattle.rb_image.specs.declared.kept.Kept.{Kept}
use Rattle.rb_image.specs.declared.visit.Visited.{Visited}
use Rattle.rb_image.specs.FieldSites.{HasNarrowParts}
use Rattle.rb_image.specs.LeafWords.{HasNumbers, block_addresses}
use Rattle.rb_image.specs.Orders.{order_of}
use Rattle.rb_image.specs.Spans.{tree_span, word_span}
use Rattle.rb_image.specs.Splits.{leaf_at}
use Rattle.rb_image.specs.Ways.{refused_below}

-- the splits of a layout lead to its leaves, and each of these has so many root words; all its words are few and
-- short, and their parts narrow
pub record IsTidy (layout : Layout) (count : ℕ) : Type 0 where
  pub leads : (m : List ImageBlock) (ws : List Kept) (n : ℕ)
      → ◌≡◌ {A = Result ℕ ImageFault} (leaf_at layout.tree m ws) (Ok n)
      → (leaf : Leaf) × (slice_get layout.leaves n ≡ Some leaf)
  pub rooted : (n : ℕ) (leaf : Leaf) → slice_get layout.leaves n ≡ Some leaf → length leaf.root ≡ count
  pub readable : (n : ℕ) (leaf : Leaf) → slice_get layout.leaves n ≡ Some leaf → IsReadable leaf
  pub narrow : (n : ℕ) (leaf : Leaf) → slice_get layout.leaves n ≡ Some leaf → HasNarrowParts leaf

-- layouts that agree with their types are tidy, each leaf with as many root words as the layout's shape has
abbrev pub LayoutsAreTidy : Type 0
LayoutsAreTidy =
    (p : Program) → IsTyped p → Agrees p → (t : ℕ) (layout : Layout) → layout_of (flat_layouts p) t ≡ Some layout
    → IsTidy layout (length layout.shape)

-- x has the leaf to which the splits of a layout lead on the words ws, and the words of that leaf as they are read
-- in the blocks m
pub record IsVisited (m : List ImageBlock) (layout : Layout) (ws : List Kept) (x : Visited) : Type 0 where
  pub number : ℕ
  pub leads : ◌≡◌ {A = Result ℕ ImageFault} (leaf_at layout.tree m ws) (Ok number)
  pub is_leaf : slice_get layout.leaves number ≡ Some x.leaf.now
  pub root : x.words.root.items ≡ ws
  pub addresses : x.words.addresses.items ≡ block_addresses m x.leaf.now ws
  pub numbers : HasNumbers m x.leaf.now x.words

-- the splits of a layout, and the flat words of all its leaves: the part of a type's span that is its own
abbrev pub own_span : Layout → ℕ
own_span layout = tree_span layout.tree + sum_by word_span layout.leaves

-- the fault of the first pointer that is refused on the way to what stands at a path of the leaf or below it; none
-- where none is
abbrev pub first_refused : List ImageBlock → List ℕ → Visited → Option ImageFault
first_refused m path x =
    refused_below m x.leaf.now x.words.root.items x.words.addresses.items path (order_of x.leaf.now)
