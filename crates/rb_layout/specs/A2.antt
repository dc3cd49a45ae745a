-- A2: word for word, the root of a leaf is as wide as the shape says. A shape is the list of the widths in bits that
-- a layout states for the words of its type.
use Rattle.std.specs.Prelude.{◌≡◌, ℕ, List, map, length, Some, slice_get}
use Rattle.rb_layout.specs.declared.layout.Layout.{Layout}
use Rattle.rb_layout.specs.declared.layout.Leaf.{Leaf}
use Rattle.rb_layout.specs.declared.layout.FlatWord.{FlatWord}
use Rattle.rb_layout.specs.declared.evidence.Why.{Why}
use Rattle.rb_layout.specs.declared.evidence.Why.TheVariants.{WordCount, WordWidth}
use Rattle.rb_layout.specs.Each.{EachLeaf}

-- the widths of words in bits, in their order
abbrev pub widths_of : List FlatWord → List ℕ
widths_of words = map (λ (f : FlatWord). f.width) words

-- a leaf has a root word for each word of the shape, of its width and in its order, and no others
abbrev pub HasRoot : List ℕ → Leaf → Type 0
HasRoot shape leaf = widths_of leaf.root ≡ shape

-- the rule: each leaf of each layout has the root words of its layout's shape
abbrev pub A2 : List Layout → Type 0
A2 layouts = EachLeaf layouts (λ t layout n leaf. HasRoot layout.shape leaf)

-- How a leaf fails the rule where this shape is wanted, by the evidence: it has `found` root words, and the shape has
-- `wanted`, another number; or root word i has `width` bits, and the shape's has `wanted`, another width. No other
-- evidence fails the rule.
abbrev pub FailsRoot : List ℕ → Leaf → Why → Type 0
FailsRoot shape leaf (WordCount wanted found) =
    (wanted ≡ length shape) × (found ≡ length leaf.root) × (wanted ≡ found → ⊥)
FailsRoot shape leaf (WordWidth i width wanted) =
    (slice_get (widths_of leaf.root) i ≡ Some width) × (slice_get shape i ≡ Some wanted) × (width ≡ wanted → ⊥)
FailsRoot shape leaf why = ⊥
