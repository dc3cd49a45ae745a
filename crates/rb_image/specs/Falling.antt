-- Words that represent a value from which all pointers fall, and that the images of such words are sound. A pointer
-- falls where it leads to a lower address than that of the block in which it is kept, or is kept in no block. A word
-- of a leaf is one of its root, or one of a block, which is given by the block's number. `from j` is the address of
-- the block in which root word j is kept, 0 for none, and `ats b` that of the leaf's block b.
use Rattle.std.specs.Prelude.{◌≡◌, ◌⊎◌, ℕ, ◌^◌, ◌<◌, List, [], ◌∷◌, false, Option, Some, None, slice_get}
use Rattle.rb_core.specs.declared.program.Program.{Program}
use Rattle.rb_core.specs.declared.types.DataDecl.{DataDecl}
use Rattle.rb_core.specs.declared.types.Ty.{Ty}
use Rattle.rb_core.specs.declared.types.Ty.TheVariants.{Int, Named}
use Rattle.rb_core.specs.declared.value.Value.{Value, Num}
use Rattle.rb_core.specs.TypedPrograms.{IsTyped}
use Rattle.rb_bytes.specs.Memory.{Memory, IsGood}
use Rattle.rb_layout.specs.declared.layout.FlatWord.{FlatWord}
use Rattle.rb_layout.specs.declared.layout.Kind.TheVariants.{Word}
use Rattle.rb_layout.specs.declared.layout.Layout.{Layout}
use Rattle.rb_layout.specs.declared.layout.Leaf.{Leaf}
use Rattle.rb_layout.specs.declared.layout.Part.{Part}
use Rattle.rb_layout.specs.declared.layout.WordRef.{WordRef}
use Rattle.rb_layout.specs.Agreement.{Agrees}
use Rattle.rb_layout.specs.Flattening.{flat_layouts}
use Rattle.rb_layout.specs.Pointers.{PointsTo}
use Rattle.rb_layout.specs.Positions.{Open, open_positions}
use Rattle.rb_layout.specs.Words.{flat_at}
use Rattle.rb_rel.specs.Relation.{Made, Represents}
use Rattle.rb_image_text.specs.declared.image.Image.{Image}
use Rattle.rb_image_text.specs.Images.{AreImageBlocks}
use Rattle.rb_image_text.specs.Places.{AreInPlace}
use Rattle.rb_image.specs.Memories.{Stand, image_memory}
use Rattle.rb_image.specs.Roots.{IsSoundImage}
use Rattle.rb_image.specs.Values.{IsDeclared}

-- Blocks in which words are kept -------------------------------------------------------------

-- the address of the block in which word j of a leaf is kept: that of the leaf's own block, which begins at its
-- `ats`; or, for root word j, `from j`, which is 0 where the word is kept in no block
abbrev pub base_in : (ℕ → ℕ) → (ℕ → ℕ) → Option ℕ → ℕ → ℕ
base_in from ats None j = from j
base_in from ats (Some b) j = ats b

-- the address `at`, to which a pointer leads, lies below that of the block in which the pointer is kept, `base`;
-- where that is 0 the pointer is kept in no block and may lead anywhere
abbrev pub AddressFalls : ℕ → ℕ → Type 0
AddressFalls base at = (base ≡ 0) ⊎ (at < base)

-- each pointer part of a leaf that stands in a block leads to a block with a lower address
abbrev pub PointersFall : Leaf → (ℕ → ℕ) → (ℕ → ℕ) → Type 0
PointersFall leaf from ats =
    (r : WordRef) (l align b : ℕ) → PointsTo leaf r l align b → AddressFalls (base_in from ats r.block r.word) (ats b)

-- the word of a leaf that r names, in its root or a block, has a part that is word j of the subvalue at a path of
-- field numbers
pub record HasWord (leaf : Leaf) (r : WordRef) (path : List ℕ) (j : ℕ) : Type 0 where
  pub word : FlatWord
  pub number : ℕ
  pub part : Part
  pub is_word : flat_at leaf r ≡ Some word
  pub is_part : slice_get word.parts number ≡ Some part
  pub is_kind : part.kind ≡ Word path j

-- `inner` gives for each word of a subvalue the address of the block in which the leaf's part stands that is this
-- word, or what `from` gives of its root word
abbrev pub AreKept : Leaf → (ℕ → ℕ) → (ℕ → ℕ) → (List ℕ → ℕ → ℕ) → Type 0
AreKept leaf from ats inner =
    (r : WordRef) (path : List ℕ) (j : ℕ) → HasWord leaf r path j → inner path j ≡ base_in from ats r.block r.word

-- Values -------------------------------------------------------------------------------------

-- the words represent the value at its type in the memory, where word j is kept in the block at `from j`, or in none
-- where that is 0; and all pointers fall, here and in the subvalues, whose words are kept in the blocks at `inner`
pub data Descends (types : List DataDecl) (layouts : List Layout) (m : Memory) : Ty → Value → List ℕ → (ℕ → ℕ)
    → Type 0 where
  number : (bits x : ℕ) (from : ℕ → ℕ) → x < 2 ^ bits → Descends types layouts m (Int bits) (Num x) (x ∷ []) from
  built : (t : ℕ) (v : Value) (ws : List ℕ) (from : ℕ → ℕ) (b : Made types layouts m false t v ws)
      (inner : List ℕ → ℕ → ℕ)
      → PointersFall b.leaf from b.ats → AreKept b.leaf from b.ats inner
      → ((k : ℕ) (o : Open) → slice_get (open_positions types b.leaf.prov) k ≡ Some o
      → Descends types layouts m o.ty (b.at o.path) (b.subs o.path) (inner o.path))
      → Descends types layouts m (Named t) v ws from

-- the root words of an image represent a value in the memory that has exactly its blocks, and all pointers fall
abbrev pub RootDescends : Program → Image → Ty → Value → Type 0
RootDescends p image ty v = Descends p.types (flat_layouts p) (image_memory image.blocks) ty v image.root (λ j. 0)

-- an image is sound for a type where its root words represent a value of it and all pointers fall
abbrev pub DescendingImagesAreSound : Type 0
DescendingImagesAreSound =
    (p : Program) → IsTyped p → Agrees p → (image : Image) → AreInPlace image.blocks → AreImageBlocks image.blocks
    → (ty : Ty) (v : Value) → RootDescends p image ty v → IsSoundImage p.types (flat_layouts p) image ty

-- where an image is sound for a type of the program, its root words represent a value of it and all pointers fall
abbrev pub SoundImagesDescend : Type 0
SoundImagesDescend =
    (p : Program) → IsTyped p → Agrees p → (image : Image) → AreInPlace image.blocks → AreImageBlocks image.blocks
    → (ty : Ty) → IsDeclared p.types ty → IsSoundImage p.types (flat_layouts p) image ty → (v : Value)
    × RootDescends p image ty v

-- what the root words of a sound image represent in any memory in which its blocks stand, they represent in the
-- memory of exactly these blocks, too, and all pointers fall there
abbrev pub SoundValuesDescend : Type 0
SoundValuesDescend =
    (p : Program) → IsTyped p → Agrees p → (image : Image) → AreInPlace image.blocks → AreImageBlocks image.blocks
    → (ty : Ty) → IsDeclared p.types ty → IsSoundImage p.types (flat_layouts p) image ty → (m : Memory) → IsGood m
    → Stand image.blocks m
    → (v : Value) → Represents p.types (flat_layouts p) m false ty v image.root → RootDescends p image ty v
