-- Blocks and pointers, part by part, word by word and block by block. A block is words in memory to which a pointer
-- of a leaf leads; a part is l bits of a word, with what they hold. A pointer's alignment is the bytes in whose
-- multiples it counts; an alignment of 2^k saves k bits. A pointer is wide enough where its bits and those that it
-- saves are at least 24. `why` is evidence: how something fails.
use Rattle.std.specs.Prelude.{◌≡◌, ℕ, ◌+◌, ◌^◌, ◌<◌, ◌⊎◌, List, length, Option, Some, None}
use Rattle.rb_layout.specs.declared.layout.Block.{Block}
use Rattle.rb_layout.specs.declared.layout.FlatWord.{FlatWord}
use Rattle.rb_layout.specs.declared.layout.Part.{Part}
use Rattle.rb_layout.specs.declared.layout.Kind.{Kind}
use Rattle.rb_layout.specs.declared.layout.Kind.TheVariants.{Const, Bits, Word, Pointer}
use Rattle.rb_layout.specs.declared.evidence.Why.{Why}
use Rattle.rb_layout.specs.declared.evidence.Why.TheVariants.{BlockWord, BlockWords, Align, ShortPointer}
use Rattle.rb_layout.specs.A4.{IsAlignment, IsBlockLength, IsBlockWidth, IsWide}
use Rattle.rb_agree.specs.Lists.{SomeOf}
use Rattle.rb_agree.specs.inner.Lists.{EachOf}

-- how a pointer of l bits with this alignment fails: by the alignment, or by its bits with those that it saves
abbrev pub FailsPointer : ℕ → ℕ → Why → Type 0
FailsPointer l align (Align a) = (a ≡ align) × (IsAlignment align → ⊥)
FailsPointer l align (ShortPointer n) = ((k : ℕ) × (align ≡ 2 ^ k) × (n ≡ l + k)) × (n < 24)
FailsPointer l align why = ⊥

-- a part of l bits and of this kind is no pointer, or one that is aligned and wide enough
abbrev pub IsKind : ℕ → Kind → Type 0
IsKind l (Const c) = Unit {0}
IsKind l (Bits path a) = Unit {0}
IsKind l (Word path j) = Unit {0}
IsKind l (Pointer align b) = IsAlignment align × IsWide align l

-- a part of l bits and of this kind is a pointer that fails as `why` says
abbrev pub FailsKind : ℕ → Kind → Why → Type 0
FailsKind l (Const c) why = ⊥
FailsKind l (Bits path a) why = ⊥
FailsKind l (Word path j) why = ⊥
FailsKind l (Pointer align b) why = FailsPointer l align why

-- each of these parts is no pointer, or one that is aligned and wide enough
abbrev pub ArePartsFine : List Part → Type 0
ArePartsFine parts = EachOf (λ (p : Part). IsKind p.l p.kind) parts

-- one of these parts is a pointer that fails as `why` says
abbrev pub FailsPointerParts : List Part → Why → Type 0
FailsPointerParts parts why = SomeOf (λ (p : Part). FailsKind p.l p.kind why) parts

-- each pointer among the parts of these words is aligned and wide enough
abbrev pub ArePointersFine : List FlatWord → Type 0
ArePointersFine words = EachOf (λ (f : FlatWord). ArePartsFine f.parts) words

-- a pointer among the parts of these words fails as `why` says
abbrev pub FailsPointers : List FlatWord → Why → Type 0
FailsPointers words why = SomeOf (λ (f : FlatWord). FailsPointerParts f.parts why) words

-- a word of a block has 8, 16, 32 or 64 bits
abbrev pub HasWidth : FlatWord → Type 0
HasWidth f = IsBlockWidth f.width

-- a word of a block has another width than 8, 16, 32 or 64 bits, and `why` names it
abbrev pub FailsWidth : Why → FlatWord → Type 0
FailsWidth (BlockWord w) f = (f.width ≡ w) × (IsBlockWidth w → ⊥)
FailsWidth why f = ⊥

-- a block of 1 to 64 words of such widths, with pointers that are fine
pub record IsBlock (block : Block) : Type 0 where
  pub length : IsBlockLength (length block.words)
  pub widths : EachOf HasWidth block.words
  pub pointers : ArePointersFine block.words

-- a block fails as `why` says: by its number of words, by a word's width or by a pointer
abbrev pub FailsBlock : Block → Why → Type 0
FailsBlock block (BlockWords n) = (length block.words ≡ n) × (IsBlockLength n → ⊥)
FailsBlock block (BlockWord w) = SomeOf (FailsWidth (BlockWord w)) block.words
FailsBlock block (Align a) = FailsPointers block.words (Align a)
FailsBlock block (ShortPointer n) = FailsPointers block.words (ShortPointer n)
FailsBlock block why = ⊥

-- the words of a block are none or more than 64, and `why` says how many
abbrev pub FailsLength : List FlatWord → Why → Type 0
FailsLength words (BlockWords n) = (length words ≡ n) × (IsBlockLength n → ⊥)
FailsLength words why = ⊥

-- one of these blocks fails as `why` says
abbrev pub FailsInBlocks : List Block → Why → Type 0
FailsInBlocks blocks why = SomeOf (λ (b : Block). FailsBlock b why) blocks

-- the number of the block to which a part of this kind points; none where it is no pointer
abbrev pub pointed_block : Kind → Option ℕ
pointed_block (Const c) = None
pointed_block (Bits path a) = None
pointed_block (Word path j) = None
pointed_block (Pointer align b) = Some b

-- a part is a pointer that fails as `why` says, or one of these blocks does
abbrev pub FailsNearPart : List Block → Part → Why → Type 0
FailsNearPart blocks part why = FailsKind part.l part.kind why ⊎ FailsInBlocks blocks why

-- a pointer among these parts fails as `why` says, or one of these blocks does
abbrev pub FailsNear : List Block → List Part → Why → Type 0
FailsNear blocks parts why = FailsPointerParts parts why ⊎ FailsInBlocks blocks why
