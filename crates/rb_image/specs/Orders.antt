-- The order in which the parts of a leaf are examined. A part is a range of a word of a leaf: a constant, bits or a
-- word of a field, or a pointer to one of the leaf's blocks. The offset of a part is its first bit, in bits; `byte`
-- is where a word begins in its block, in bytes. `block` is the number of a leaf's block, or none for the root.
use Rattle.std.specs.Prelude.{◌≡◌, ℕ, zero, suc, ◌+◌, ◌/◌, ◌==◌, List, [], ◌∷◌, ◌++◌, filter, length, map, Option, Some, None, slice_get}
use Rattle.std.specs.List.{flat_map}
use Rattle.rb_layout.specs.declared.layout.Leaf.{Leaf}
use Rattle.rb_layout.specs.declared.layout.FlatWord.{FlatWord}
use Rattle.rb_layout.specs.declared.layout.Kind.{Kind}
use Rattle.rb_layout.specs.declared.layout.Kind.TheVariants.{Const, Bits, Word, Pointer}
use Rattle.rb_layout.specs.declared.layout.Part.{Part}
use Rattle.rb_layout.specs.Words.{words_in}
use Rattle.rb_image.specs.declared.order.Spot.{Spot}

-- a part, and the word that it is of: root word number `word`, or the word of a block that begins at a byte
pub record LocatedPart : Type 0 where
  pub block : Option ℕ
  pub word : ℕ
  pub byte : ℕ
  pub width : ℕ
  pub part : Part

-- the part that a `Spot` of the code borrows, with the word that it is of
abbrev pub spot_part : Spot → LocatedPart
spot_part s = record { block = s.block; word = s.word; byte = s.byte; width = s.width; part = s.part.now }

-- the parts that spots borrow, with the words that they are of, in their order
abbrev pub spots_of : List Spot → List LocatedPart
spots_of spots = map spot_part spots

-- those of the parts that begin at bit o
abbrev pub beginning_at : List Part → ℕ → List Part
beginning_at parts o = filter (λ p. p.o == o) parts

-- those of the parts that begin at one of the n bits from bit o on, in the order of these bits
abbrev pub beginning_from : List Part → ℕ → ℕ → List Part
beginning_from parts o zero = []
beginning_from parts o (suc n) = beginning_at parts o ++ beginning_from parts (o + 1) n

-- the parts of a word by offset, that is by the bit at which each begins
abbrev pub by_offset : FlatWord → List Part
by_offset f = beginning_from f.parts 0 f.width

-- the parts that come right behind a part of this kind: those of the block to which it points, as `inner` gives them;
-- none behind a part that is no pointer
abbrev pub pointed_parts : (ℕ → List LocatedPart) → Kind → List LocatedPart
pointed_parts inner (Const c) = []
pointed_parts inner (Bits path a) = []
pointed_parts inner (Word path j) = []
pointed_parts inner (Pointer align b) = inner b

-- part p of word j of a block or the root, which begins at a byte there, and behind it the parts of the block to
-- which it points
abbrev pub with_inner : (ℕ → List LocatedPart) → Option ℕ → ℕ → ℕ → ℕ → Part → List LocatedPart
with_inner inner block j byte width p =
    record { block = block; word = j; byte = byte; width = width; part = p } ∷ pointed_parts inner p.kind

-- the parts of word j of a block or the root, which begins at a byte there, by offset; behind each those of the block
-- to which it points
abbrev pub word_order : (ℕ → List LocatedPart) → Option ℕ → ℕ → ℕ → FlatWord → List LocatedPart
word_order inner block j byte f = flat_map (with_inner inner block j byte f.width) (by_offset f)

-- the parts of words of a block or the root, the first of which is word j and begins at a byte; behind each part
-- those of the block to which it points
abbrev pub words_order : (ℕ → List LocatedPart) → Option ℕ → ℕ → ℕ → List FlatWord → List LocatedPart
words_order inner block j byte [] = []
words_order inner block j byte (f ∷ fs) =
    word_order inner block j byte f ++ words_order inner block (j + 1) (byte + f.width / 8) fs

-- the parts of the block with a number, and of those that it leads to through fewer than `depth` pointers; none at
-- depth 0, or where there is no such block
abbrev pub block_order : Leaf → ℕ → ℕ → List LocatedPart
block_order leaf zero b = []
block_order leaf (suc depth) b = words_order (block_order leaf depth) (Some b) 0 0 (words_in leaf (Some b))

-- all parts of a leaf by word and offset; those of a pointer's block come right behind the pointer, which leads to a
-- block of a lower number than its own
abbrev pub order_of : Leaf → List LocatedPart
order_of leaf = words_order (block_order leaf (length leaf.blocks)) None 0 0 leaf.root

-- s is one of the parts of a leaf, each with the word that it is of, as `order_of` lists them
abbrev pub IsLeafPart : Leaf → LocatedPart → Type 0
IsLeafPart leaf s = (k : ℕ) × (slice_get (order_of leaf) k ≡ Some s)
