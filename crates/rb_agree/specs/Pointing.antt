-- Which layouts have a pointer part in a leaf. A part is some bits of a word of the leaf; the words are root words or
-- those of its blocks. A mark is a truth value, on where true, that a list has for each type, by its number.
use Rattle.std.specs.Prelude.{◌≡◌, ℕ, ◌⊎◌, List, length, Bool, Some, MatchBool, slice_get}
use Rattle.rb_layout.specs.declared.layout.Layout.{Layout}
use Rattle.rb_layout.specs.declared.layout.Leaf.{Leaf}
use Rattle.rb_layout.specs.declared.layout.Block.{Block}
use Rattle.rb_layout.specs.declared.layout.FlatWord.{FlatWord}
use Rattle.rb_layout.specs.declared.layout.Part.{Part}
use Rattle.rb_layout.specs.declared.layout.Kind.TheVariants.{Pointer}
use Rattle.rb_agree.specs.Lists.{SomeOf}

-- a part is a pointer
abbrev pub PartPoints : Part → Type 0
PartPoints p = (align : ℕ) × (b : ℕ) × (p.kind ≡ Pointer align b)

-- one of these parts is a pointer
abbrev pub PartsPoint : List Part → Type 0
PartsPoint parts = SomeOf PartPoints parts

-- one of these words has a pointer part
abbrev pub WordsPoint : List FlatWord → Type 0
WordsPoint words = SomeOf (λ (f : FlatWord). PartsPoint f.parts) words

-- a word of one of these blocks has a pointer part
abbrev pub BlocksPoint : List Block → Type 0
BlocksPoint blocks = SomeOf (λ (b : Block). WordsPoint b.words) blocks

-- a leaf has a pointer part
abbrev pub LeafPoints : Leaf → Type 0
LeafPoints leaf = WordsPoint leaf.root ⊎ BlocksPoint leaf.blocks

-- one of these leaves has a pointer part
abbrev pub LeavesPoint : List Leaf → Type 0
LeavesPoint leaves = SomeOf LeafPoints leaves

-- a mark for each layout, whether one of its leaves has a pointer part
pub record AreMarks (layouts : List Layout) (marks : List Bool) : Type 0 where
  pub count : length marks ≡ length layouts
  pub each : (t : ℕ) (layout : Layout) (mark : Bool) → slice_get layouts t ≡ Some layout → slice_get marks t ≡ Some mark
      → MatchBool mark (LeavesPoint layout.leaves) (LeavesPoint layout.leaves → ⊥)
