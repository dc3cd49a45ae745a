-- What the flat form of any layout has: each pointer its block, and each block a pointer outside it. The flat form of
-- a layout has for each leaf, the form of the values of one pattern, its root words and a numbered list of its blocks;
-- the rules are those that a layout must obey, A1 to A10. Blocks are numbered inner before outer, so that a block has a
-- lower number than the block in which a pointer to it stands.
use Rattle.std.specs.Prelude.{◌≡◌, ℕ, ◌<◌, Option, Some, None, slice_get}
use Rattle.rb_core.specs.declared.program.Program.{Program}
use Rattle.rb_layout.specs.declared.layout.Leaf.{Leaf}
use Rattle.rb_layout.specs.declared.layout.Block.{Block}
use Rattle.rb_layout.specs.declared.layout.WordRef.{WordRef}
use Rattle.rb_layout.specs.Each.{EachLeaf}
use Rattle.rb_layout.specs.Pointers.{PointsTo}
use Rattle.rb_layout.specs.Flattening.{flat_layouts}

-- a word may have a pointer to block b, by where it stands: among the root words, or in a block with a higher number
-- than b
abbrev pub IsAbove : Option ℕ → ℕ → Type 0
IsAbove None b = Unit {0}
IsAbove (Some a) b = b < a

-- the leaf has a block b, of this alignment in bytes
abbrev pub HasBlock : Leaf → ℕ → ℕ → Type 0
HasBlock leaf align b = (block : Block) × (slice_get leaf.blocks b ≡ Some block) × (block.align ≡ align)

-- each pointer of a leaf leads to a block of the leaf, and each block has a pointer to it
pub record IsFlat (leaf : Leaf) : Type 0 where
  -- the block that a pointer leads to is there, has the pointer's alignment, and is numbered below what points to it
  pub below : (r : WordRef) (l align b : ℕ) → PointsTo leaf r l align b → HasBlock leaf align b × IsAbove r.block b
  -- each block has a pointer to it, from a root word or from a block above
  pub pointed : (b : ℕ) (block : Block) → slice_get leaf.blocks b ≡ Some block → (r : WordRef) × (l : ℕ)
      × PointsTo leaf r l block.align b × IsAbove r.block b

-- the law: in each leaf of the flat forms of any program's layouts each pointer leads to a block of the leaf, and
-- each block has a pointer to it, whether or not the layouts obey the rules
abbrev pub LeavesAreFlat : Type 0
LeavesAreFlat = (p : Program) → EachLeaf (flat_layouts p) (λ t layout n leaf. IsFlat leaf)
