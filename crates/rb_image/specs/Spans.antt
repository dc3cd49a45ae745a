-- Spans: the numbers from which bounds are made on how many words of an image are read to look at one value by
-- itself. A location of a split has steps, each over a pointer to a block. A leaf has flat words, in its root and
-- its blocks, and a provenance, the pattern of its values; a constructor below the root of that is flattened into
-- the leaf.
use Rattle.std.specs.Prelude.{◌≡◌, ℕ, zero, suc, ◌+◌, List, length, Option, Some, None}
use Rattle.std.specs.List.{sum_by}
use Rattle.rb_core.specs.declared.program.Program.{Program}
use Rattle.rb_core.specs.declared.types.ConRef.{ConRef}
use Rattle.rb_core.specs.declared.types.Ty.{Ty}
use Rattle.rb_core.specs.declared.types.Ty.TheVariants.{Int, Named}
use Rattle.rb_layout.specs.declared.layout.Block.{Block}
use Rattle.rb_layout.specs.declared.layout.FlatTree.{FlatTree}
use Rattle.rb_layout.specs.declared.layout.Layout.{Layout}
use Rattle.rb_layout.specs.declared.layout.Leaf.{Leaf}
use Rattle.rb_layout.specs.Positions.{layout_of}
use Rattle.rb_layout.specs.Splits.{SplitAt, splits_of}
use Rattle.rb_layout.specs.A9.{cons_below}
use Rattle.rb_layout.specs.Agreement.{Agrees}
use Rattle.rb_layout.specs.Flattening.{flat_layouts}

-- the span of a split: one, and one more for each step of its location
abbrev pub split_span : SplitAt → ℕ
split_span s = 1 + length s.loc.steps

-- the span of a tree of splits: the sum of the spans of its splits
abbrev pub tree_span : FlatTree → ℕ
tree_span tree = sum_by split_span (splits_of tree)

-- how many flat words a leaf has, in its root and in its blocks
abbrev pub word_span : Leaf → ℕ
word_span leaf = length leaf.root + sum_by (λ (b : Block). length b.words) leaf.blocks

-- the sum of what `span` gives of the type of each constructor below the root of a leaf's provenance
abbrev pub inner_span : (ℕ → ℕ) → Leaf → ℕ
inner_span span leaf = sum_by (λ (con : ConRef). span con.ty) (cons_below leaf.prov)

-- the span of a layout, where `span` gives those of data types: the splits, the flat words of all leaves, and the
-- constructors below the roots of their provenances; 0 where there is no layout
abbrev pub layout_span : (ℕ → ℕ) → Option Layout → ℕ
layout_span span None = 0
layout_span span (Some layout) =
    tree_span layout.tree + sum_by word_span layout.leaves + sum_by (inner_span span) layout.leaves

-- the span of data type t, counted through so many levels of types flattened into one another; 0 at no level
abbrev pub span_within : List Layout → ℕ → ℕ → ℕ
span_within layouts zero t = 0
span_within layouts (suc n) t = layout_span (span_within layouts n) (layout_of layouts t)

-- The span of a data type asks for those of the types that are flattened into it. Flattening has no cycle, so the types
-- on such a way are distinct and have layouts: there are no more of them than layouts.
abbrev pub data_span : List Layout → ℕ → ℕ
data_span layouts = span_within layouts (length layouts)

-- the span of a type: 1 for an integer, which is one word, and for a data type the span by its layout
abbrev pub span : List Layout → Ty → ℕ
span layouts (Int bits) = 1
span layouts (Named t) = data_span layouts t

-- the span of a data type is what it says: its splits, the flat words of all its leaves, and the span of the type of
-- each constructor below the root of a provenance
abbrev pub SpansRecur : Type 0
SpansRecur = (p : Program) → Agrees p → (t : ℕ) → let layouts = flat_layouts p in
    span layouts (Named t) ≡ layout_span (λ s. span layouts (Named s)) (layout_of layouts t)
