-- Blocks whose words are few and short, so that their bytes can be counted. A block is what a pointer of a leaf leads
-- to.
use Rattle.std.specs.Prelude.{◌≡◌, ℕ, List, Some, slice_get}
use Rattle.rb_layout.specs.declared.layout.Leaf.{Leaf}
use Rattle.rb_layout.specs.declared.layout.Block.{Block}
use Rattle.rb_layout.specs.Readable.{AreShort}

-- each of these blocks has at most 64 words, each of at most 64 bits
abbrev pub HaveShortWords : List Block → Type 0
HaveShortWords blocks = (b : ℕ) (block : Block) → slice_get blocks b ≡ Some block → AreShort block.words

-- each block of each of these leaves has at most 64 words, each of at most 64 bits
abbrev pub HaveShortBlocks : List Leaf → Type 0
HaveShortBlocks leaves = (n : ℕ) (leaf : Leaf) → slice_get leaves n ≡ Some leaf → HaveShortWords leaf.blocks
