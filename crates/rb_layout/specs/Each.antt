-- What is said of each layout, and of each leaf. Layouts stand in the order of their types: a type's number is the
-- place of its layout in the list, from 0, and a leaf's number its place among the leaves of its layout.
use Rattle.std.specs.Prelude.{◌≡◌, ℕ, List, Some, slice_get}
use Rattle.rb_layout.specs.declared.layout.Layout.{Layout}
use Rattle.rb_layout.specs.declared.layout.Leaf.{Leaf}
use Rattle.rb_layout.specs.Positions.{layout_of}

-- P holds of each layout, which it is given with the number t of its type; so it is where there are no layouts
abbrev pub EachLayout : List Layout → (ℕ → Layout → Type 0) → Type 0
EachLayout layouts P = (t : ℕ) (layout : Layout) → layout_of layouts t ≡ Some layout → P t layout

-- P holds of each leaf of each layout, which it is given with the number t of its type, its layout and its own number
-- n; so it is where there are no layouts, or none with a leaf
abbrev pub EachLeaf : List Layout → (ℕ → Layout → ℕ → Leaf → Type 0) → Type 0
EachLeaf layouts P = (t : ℕ) (layout : Layout) (n : ℕ) (leaf : Leaf) → layout_of layouts t ≡ Some layout
    → slice_get layout.leaves n ≡ Some leaf → P t layout n leaf
