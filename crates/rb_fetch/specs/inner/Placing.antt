-- Where parts of leaves stand: which part is looked for, and where it is found. A part is a range of bits of a root
-- word of a leaf or of a word of its blocks, and a spot is a part where it stands. A field stands at a path, field
-- numbers from the root; a unit of it is a bit of an integer, or a word of a data type. A block is named by its
-- number in the leaf, and where a block may be missing, None stands for the root words. `WayTo` asks for the pointer
-- to a block, `UnitOf` for a unit of a field of this type.
use Rattle.std.specs.Prelude.{◌≡◌, ℕ, ◌-◌, ◌==◌, List, Bool, true, false, Option, Some, None, length, slice_get}
use Rattle.rb_core.specs.declared.layout_decl.Step.{Step}
use Rattle.rb_core.specs.declared.program.Program.{Program}
use Rattle.rb_core.specs.TypedPrograms.{IsTyped}
use Rattle.rb_layout.specs.declared.layout.Layout.{Layout}
use Rattle.rb_layout.specs.declared.layout.Leaf.{Leaf}
use Rattle.rb_layout.specs.declared.layout.Block.{Block}
use Rattle.rb_layout.specs.declared.layout.FlatWord.{FlatWord}
use Rattle.rb_layout.specs.declared.layout.Part.{Part}
use Rattle.rb_layout.specs.declared.layout.Kind.{Kind}
use Rattle.rb_layout.specs.declared.layout.Kind.TheVariants.{Const, Bits, Word, Pointer}
use Rattle.rb_layout.specs.A6.{holds_unit}
use Rattle.rb_layout.specs.Agreement.{Agrees}
use Rattle.rb_layout.specs.Flattening.{flat_layouts}
use Rattle.rb_layout.specs.Positions.{layout_of}
use Rattle.rb_layout.specs.Words.{words_in, begins_at}
use Rattle.rb_fetch.specs.declared.place.Spot.{Spot}
use Rattle.rb_fetch.specs.declared.place.Wanted.{Wanted}
use Rattle.rb_fetch.specs.declared.place.Wanted.TheVariants.{UnitOf, WayTo}

-- a leaf of a layout that agrees
pub record IsAgreedLeaf (leaf : Leaf) : Type 0 where
  pub program : Program
  pub typed : IsTyped program
  pub agrees : Agrees program
  pub ty : ℕ
  pub layout : Layout
  pub number : ℕ
  pub is_layout : layout_of (flat_layouts program) ty ≡ Some layout
  pub is_leaf : slice_get layout.leaves number ≡ Some leaf

-- whether a part of this kind is a pointer to the leaf's block with number b
abbrev pub points_to : ℕ → Kind → Bool
points_to b (Const c) = false
points_to b (Bits path a) = false
points_to b (Word path j) = false
points_to b (Pointer align own) = own == b

-- whether a part is the wanted one: it holds the wanted unit of the field at `path`, or points to the wanted block
abbrev pub is_wanted : List ℕ → Wanted → Part → Bool
is_wanted path (UnitOf ty i) p = holds_unit ty path i p.l p.kind
is_wanted path (WayTo b) p = points_to b p.kind

-- none of the parts is the wanted one
abbrev pub NoneIn : List ℕ → Wanted → List Part → Type 0
NoneIn path wanted parts = (k : ℕ) (p : Part) → slice_get parts k ≡ Some p → is_wanted path wanted p ≡ true → ⊥

-- no part of any of the words is the wanted one
abbrev pub NoneOf : List ℕ → Wanted → List FlatWord → Type 0
NoneOf path wanted words = (j : ℕ) (f : FlatWord) → slice_get words j ≡ Some f → NoneIn path wanted f.parts

-- no part of the leaf is the wanted one, neither in a root word nor in a word of a block
abbrev pub NoSpot : Leaf → List ℕ → Wanted → Type 0
NoSpot leaf path wanted = (b : Option ℕ) → NoneOf path wanted (words_in leaf b)

-- p is one of the parts, and is the wanted one
abbrev pub HasPart : List ℕ → Wanted → List Part → Part → Type 0
HasPart path wanted parts p = (k : ℕ) × (slice_get parts k ≡ Some p) × (is_wanted path wanted p ≡ true)

-- a wanted part stands at the spot, in one of these words, which are those of the block (no block: those of the root)
pub record IsSpotOf (path : List ℕ) (wanted : Wanted) (words : List FlatWord) (block : Option ℕ) (x : Spot) : Type 0
  where
    pub is_block : x.block ≡ block
    pub is_word : slice_get words x.word ≡ Some x.flat.now
    pub has : HasPart path wanted x.flat.now.parts x.part.now

-- a part of the leaf stands at the spot: in the word of the root, or of a block, that it says
pub record IsSpot (leaf : Leaf) (x : Spot) : Type 0 where
  pub is_word : slice_get (words_in leaf x.block) x.word ≡ Some x.flat.now
  pub number : ℕ
  pub is_part : slice_get x.flat.now.parts number ≡ Some x.part.now

-- a part of the leaf stands at the spot, and is the wanted one
pub record IsWantedSpot (leaf : Leaf) (path : List ℕ) (wanted : Wanted) (x : Spot) : Type 0 where
  pub spot : IsSpot leaf x
  pub is_it : is_wanted path wanted x.part.now ≡ true

-- Ways

-- the step of a location from the pointer to a block to the part in the block that stands at the spot
abbrev pub step_of : Block → Spot → Step
step_of block x =
    record {
      align = block.align;
      byte = begins_at block.words x.word;
      width = x.flat.now.width;
      o = x.part.now.o;
      l = x.part.now.l;
    }

-- how many blocks there are from block b outwards, itself among them; 0 for the root words, that is, without a block
abbrev pub outer_count : Leaf → Option ℕ → ℕ
outer_count leaf None = 0
outer_count leaf (Some b) = length leaf.blocks - b

-- the width of a word; none without a word
abbrev pub width_of : Option FlatWord → Option ℕ
width_of None = None
width_of (Some f) = Some f.width
