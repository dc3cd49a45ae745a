-- A4: a block has 1 to 64 words, each as wide as a memory's accesses: 8, 16, 32 or 64 bits. A leaf has at most 64
-- blocks. An alignment is a power of two up to 64, in bytes. A pointer holds an address in units of its alignment, so
-- that 2 ^ k saves it k bits; with those that are saved it has 24 bits at least.
use Rattle.std.specs.Prelude.{◌≡◌, ℕ, ◌+◌, ◌^◌, ◌<◌, ◌≤◌, ◌⊎◌, length, Some, slice_get, List}
use Rattle.rb_layout.specs.declared.layout.Layout.{Layout}
use Rattle.rb_layout.specs.declared.layout.Leaf.{Leaf}
use Rattle.rb_layout.specs.declared.layout.Block.{Block}
use Rattle.rb_layout.specs.declared.layout.FlatWord.{FlatWord}
use Rattle.rb_layout.specs.declared.layout.WordRef.{WordRef}
use Rattle.rb_layout.specs.declared.evidence.Why.{Why}
use Rattle.rb_layout.specs.declared.evidence.Why.TheVariants.{BlockWord, BlockWords, Blocks, Align, ShortPointer}
use Rattle.rb_layout.specs.Pointers.{PointsTo}
use Rattle.rb_layout.specs.Each.{EachLeaf}

-- a word of a block has 8, 16, 32 or 64 bits
abbrev pub IsBlockWidth : ℕ → Type 0
IsBlockWidth w = (w ≡ 8) ⊎ (w ≡ 16) ⊎ (w ≡ 32) ⊎ (w ≡ 64)

-- a block has 1 to 64 words
abbrev pub IsBlockLength : ℕ → Type 0
IsBlockLength n = (1 ≤ n) × (n ≤ 64)

-- an alignment in bytes is 2 ^ k for a k of at most 6
abbrev pub IsAlignment : ℕ → Type 0
IsAlignment align = (k : ℕ) × (k ≤ 6) × (align ≡ 2 ^ k)

-- A pointer of l bits that counts in units of `align` bytes is wide enough: l and the k bits that an alignment of
-- 2 ^ k saves are at least 24. An alignment that is no power of two demands nothing here.
abbrev pub IsWide : ℕ → ℕ → Type 0
IsWide align l = (k : ℕ) → align ≡ 2 ^ k → 24 ≤ l + k

-- A leaf's blocks and pointers are as the rule asks: the widths of its blocks' words, the lengths of its blocks, how
-- many blocks there are, and the alignment and width of each pointer, whether it stands in the root or in a block.
pub record HasBlocks (leaf : Leaf) : Type 0 where
  pub widths : (b : ℕ) (block : Block) (j : ℕ) (f : FlatWord) → slice_get leaf.blocks b ≡ Some block
      → slice_get block.words j ≡ Some f
      → IsBlockWidth f.width
  pub lengths : (b : ℕ) (block : Block) → slice_get leaf.blocks b ≡ Some block → IsBlockLength (length block.words)
  pub count : length leaf.blocks ≤ 64
  pub alignments : (r : WordRef) (l align b : ℕ) → PointsTo leaf r l align b → IsAlignment align
  pub wide : (r : WordRef) (l align b : ℕ) → PointsTo leaf r l align b → IsWide align l

-- the rule: in each leaf of each layout, blocks and pointers have the widths, counts and alignments that it names
abbrev pub A4 : List Layout → Type 0
A4 layouts = EachLeaf layouts (λ t layout n leaf. HasBlocks leaf)

-- How a leaf fails the rule, by the evidence: a word of a block has w bits, other than 8, 16, 32 and 64; a block has
-- n words, none or over 64; there are n blocks, over 64; a pointer has this alignment, no power of two up to 64; or a
-- pointer has n bits with those that its alignment saves, under 24. No other evidence fails the rule.
abbrev pub FailsBlocks : Leaf → Why → Type 0
FailsBlocks leaf (BlockWord w) =
    (b : ℕ) × (block : Block) × (j : ℕ) × (f : FlatWord) × (slice_get leaf.blocks b ≡ Some block)
    × (slice_get block.words j ≡ Some f)
    × (f.width ≡ w) × (IsBlockWidth w → ⊥)
FailsBlocks leaf (BlockWords n) =
    (b : ℕ) × (block : Block) × (slice_get leaf.blocks b ≡ Some block) × (length block.words ≡ n)
    × (IsBlockLength n → ⊥)
FailsBlocks leaf (Blocks n) = (length leaf.blocks ≡ n) × (64 < n)
FailsBlocks leaf (Align align) = (r : WordRef) × (l : ℕ) × (b : ℕ) × PointsTo leaf r l align b × (IsAlignment align → ⊥)
FailsBlocks leaf (ShortPointer n) =
    (r : WordRef) × (l : ℕ) × (align : ℕ) × (b : ℕ) × PointsTo leaf r l align b
    × ((k : ℕ) × (align ≡ 2 ^ k) × (n ≡ l + k)) × (n < 24)
FailsBlocks leaf why = ⊥
