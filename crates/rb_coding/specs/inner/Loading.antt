-- The words of the blocks of a leaf, loaded from a memory. A leaf is the form that a layout has for some values of a
-- type. It is placed over root words where these and the blocks to which they point hold such a value: `subs` has the
-- words of the field at a path of field numbers, and `ats` the address of each block by number.
use Rattle.std.specs.Prelude.{◌≡◌, ℕ, ◌+◌, List, [], length, false, Some, Ok, slice_get, slice_index, slice_index_or}
use Rattle.rb_bytes.specs.Memory.{Memory, IsWidth, load_of}
use Rattle.rb_layout.specs.declared.layout.Block.{Block}
use Rattle.rb_layout.specs.declared.layout.FlatWord.{FlatWord}
use Rattle.rb_layout.specs.declared.layout.Leaf.{Leaf}
use Rattle.rb_layout.specs.A4.{IsBlockWidth}
use Rattle.rb_layout.specs.Flat.{IsFlat}
use Rattle.rb_layout.specs.Words.{begins_at}
use Rattle.rb_rel.specs.Relation.{LeafStands}

-- each word of a block that begins at `base` can be loaded
abbrev pub CanLoad : Memory → ℕ → List FlatWord → Type 0
CanLoad m base fs = (j : ℕ) (f : FlatWord) → slice_get fs j ≡ Some f
    → IsWidth f.width × ((w : ℕ) × (load_of m base (begins_at fs j) f.width ≡ Ok w))

-- a load of each word of a block that begins at `base` gives the word of `ws` with the same number
abbrev pub AreLoaded : Memory → ℕ → List FlatWord → List ℕ → Type 0
AreLoaded m base fs ws = (j : ℕ) (f : FlatWord) → slice_get fs j ≡ Some f
    → load_of m base (begins_at fs j) f.width ≡ Ok (slice_index ws j)

-- a leaf that is placed in a memory over these root words, so that the words of its blocks can be loaded
pub record IsLoadable (leaf : Leaf) (ws : List ℕ) (m : Memory) : Type 0 where
  pub flat : IsFlat leaf
  pub widths : (b : ℕ) (block : Block) (j : ℕ) (f : FlatWord) → slice_get leaf.blocks b ≡ Some block
      → slice_get block.words j ≡ Some f → IsBlockWidth f.width
  pub subs : List ℕ → List ℕ
  pub ats : ℕ → ℕ
  pub placed : LeafStands leaf ws m false subs ats

-- these are the words of the blocks of a leaf that is placed over root words `ws`, those of the last block first
pub record AreWordsOf (leaf : Leaf) (ws : List ℕ) (m : Memory) (loaded : List (List ℕ)) : Type 0 where
  pub count : length loaded ≡ length leaf.blocks
  pub words : (subs : List ℕ → List ℕ) (ats : ℕ → ℕ) → LeafStands leaf ws m false subs ats
      → (b c : ℕ) (block : Block) → b + 1 + c ≡ length leaf.blocks → slice_get leaf.blocks b ≡ Some block
      → AreLoaded m (ats b) block.words (slice_index_or loaded c [])
