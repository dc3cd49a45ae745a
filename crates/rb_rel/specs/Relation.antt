-- Which words represent a value, in which memory: the least relation.
--
-- An integer is one word. A value of a data type has the words of its leaf, the first one whose provenance matches
-- it: in the root words, and in the blocks to which pointers lead, each part holds. To each open position of the leaf
-- belongs one list of words, which represents the subvalue there, and to each block one address. Bits of a word in no
-- part are free; a representation is clean where all free bits are 0.
--
-- Throughout, `ws` are the words of a value, which are the root words of its leaf, and m is the memory. `subs` gives,
-- by the path of an open position, the words of the subvalue there; `ats` gives a block's address, by its number;
-- `clean` asks that free bits are 0.
use Rattle.std.specs.Prelude.{◌≡◌, ℕ, ◌*◌, ◌^◌, ◌<◌, List, [], ◌∷◌, ◌++◌, length, Bool, true, Option, Some, None, Ok, slice_get, slice_index}
use Rattle.std.specs.Int.{bit_at}
use Rattle.rb_core.specs.declared.value.Value.{Value, Num}
use Rattle.rb_core.specs.declared.types.Ty.{Ty}
use Rattle.rb_core.specs.declared.types.Ty.TheVariants.{Int, Named}
use Rattle.rb_core.specs.declared.types.DataDecl.{DataDecl}
use Rattle.rb_core.specs.Values.{part_at}
use Rattle.rb_bits.specs.Words.{take_of}
use Rattle.rb_bytes.specs.Memory.{Memory, size_at, load_of}
use Rattle.rb_layout.specs.declared.layout.Leaf.{Leaf}
use Rattle.rb_layout.specs.declared.layout.Block.{Block}
use Rattle.rb_layout.specs.declared.layout.FlatWord.{FlatWord}
use Rattle.rb_layout.specs.declared.layout.Part.{Part}
use Rattle.rb_layout.specs.declared.layout.Kind.{Kind}
use Rattle.rb_layout.specs.declared.layout.Kind.TheVariants.{Const, Bits, Word, Pointer}
use Rattle.rb_layout.specs.declared.layout.Layout.{Layout}
use Rattle.rb_layout.specs.declared.layout.WordRef.{WordRef}
use Rattle.rb_layout.specs.FreeBits.{IsFree}
use Rattle.rb_layout.specs.Positions.{Open, open_positions, leaf_of, layout_of}
use Rattle.rb_layout.specs.Words.{words_in, flat_at, begins_at, size_of}

-- Parts of words -----------------------------------------------------------------------------

-- What the number n, in the l bits of a part, is by the part's kind: the constant; l bits of the integer at a path,
-- from bit a on; word j of the data field at a path; or the address of block b, counted in units of `align` bytes.
-- `subs` has the words of the subvalue at each open position, an integer being one word, and `ats` the address of
-- each block. A word that `subs` does not have counts as 0.
abbrev pub HoldsKind : (List ℕ → List ℕ) → (ℕ → ℕ) → ℕ → ℕ → Kind → Type 0
HoldsKind subs ats n l (Const c) = n ≡ c
HoldsKind subs ats n l (Bits path a) = n ≡ take_of (slice_index (subs path) 0) a l
HoldsKind subs ats n l (Word path j) = n ≡ slice_index (subs path) j
HoldsKind subs ats n l (Pointer align b) = n * align ≡ ats b

-- the bits of a part, in the word w in which it stands, are what its kind says
abbrev pub PartHolds : (List ℕ → List ℕ) → (ℕ → ℕ) → ℕ → Part → Type 0
PartHolds subs ats w p = HoldsKind subs ats (take_of w p.o p.l) p.l p.kind

-- the word w has no more bits than the flat word f, and each part of it holds; where it is clean, its free bits are 0
pub record WordHolds (subs : List ℕ → List ℕ) (ats : ℕ → ℕ) (clean : Bool) (f : FlatWord) (w : ℕ) : Type 0 where
  pub fits : w < 2 ^ f.width
  pub parts : (k : ℕ) (p : Part) → slice_get f.parts k ≡ Some p → PartHolds subs ats w p
  pub free : clean ≡ true → (i : ℕ) → IsFree f i → bit_at w i ≡ 0

-- Words of a leaf ----------------------------------------------------------------------------

-- w is the word that stands for word j of the flat words fs, f being that flat word: among the root words ws where no
-- block is named, and else loaded from the block's address, at the byte at which word j begins; none does where ws
-- has no word j, or the load goes astray or meets an unwritten byte
abbrev pub IsFound : Option ℕ → List FlatWord → FlatWord → ℕ → List ℕ → (ℕ → ℕ) → Memory → ℕ → Type 0
IsFound None fs f j ws ats m w = slice_get ws j ≡ Some w
IsFound (Some b) fs f j ws ats m w = load_of m (ats b) (begins_at fs j) f.width ≡ Ok w

-- The words of a leaf as they stand. There are as many root words as the leaf has; the memory has a block of exactly
-- the size of each of the leaf's blocks, at its address; and each word of the root and of the blocks is there and
-- holds.
pub record LeafStands (leaf : Leaf) (ws : List ℕ) (m : Memory) (clean : Bool) (subs : List ℕ → List ℕ)
    (ats : ℕ → ℕ) : Type 0 where
  pub count : length ws ≡ length leaf.root
  pub blocks : (b : ℕ) (block : Block) → slice_get leaf.blocks b ≡ Some block
      → size_at m.blocks (ats b) ≡ Some (size_of block)
  pub words : (r : WordRef) (f : FlatWord) → flat_at leaf r ≡ Some f
      → (w : ℕ) × IsFound r.block (words_in leaf r.block) f r.word ws ats m w × WordHolds subs ats clean f w

-- Values -------------------------------------------------------------------------------------

-- All that is said of words that represent a value of data type t, but for its subvalues. The leaf is the value's, by
-- its type's layout; there are as many words as the layout's shape has; `at` gives the subvalue at the path of each
-- open position, `subs` its words, and `ats` the address of each block.
pub record Made (types : List DataDecl) (layouts : List Layout) (m : Memory) (clean : Bool) (t : ℕ) (v : Value)
    (ws : List ℕ) : Type 0 where
  pub layout : Layout
  pub number : ℕ
  pub leaf : Leaf
  pub is_layout : layout_of layouts t ≡ Some layout
  pub is_leaf : leaf_of layout v ≡ Some number
  pub is_number : slice_get layout.leaves number ≡ Some leaf
  pub shaped : length ws ≡ length layout.shape
  pub subs : List ℕ → List ℕ
  pub ats : ℕ → ℕ
  pub at : List ℕ → Value
  pub is_at : (k : ℕ) (o : Open) → slice_get (open_positions types leaf.prov) k ≡ Some o
      → part_at v o.path ≡ Some (at o.path)
  pub placed : LeafStands leaf ws m clean subs ats

-- The words represent the value at its type in the memory, cleanly where the flag is up: the least relation.
-- `number`: an integer is one word, with no more bits than its type. `built`: a value of a data type has words of
-- which `Made` holds, and at each open position of its leaf the words there represent the subvalue there.
pub data Represents (types : List DataDecl) (layouts : List Layout) (m : Memory) (clean : Bool) : Ty → Value
    → List ℕ → Type 0 where
  number : (bits x : ℕ) → x < 2 ^ bits → Represents types layouts m clean (Int bits) (Num x) (x ∷ [])
  built : (t : ℕ) (v : Value) (ws : List ℕ) (b : Made types layouts m clean t v ws)
      → ((k : ℕ) (o : Open) → slice_get (open_positions types b.leaf.prov) k ≡ Some o
      → Represents types layouts m clean o.ty (b.at o.path) (b.subs o.path))
      → Represents types layouts m clean (Named t) v ws

-- the words represent the value, and free bits are 0 everywhere: in the root words, in each block that one comes to,
-- and in the words of subvalues
abbrev pub IsCleanlyRepresented : List DataDecl → List Layout → Memory → Ty → Value → List ℕ → Type 0
IsCleanlyRepresented types layouts m = Represents types layouts m true

-- how many words the shape of a layout has that may be missing, and 0 where it is
abbrev pub shape_length : Option Layout → ℕ
shape_length None = 0
shape_length (Some l) = length l.shape

-- how many words represent a value of a type: one for an integer, and those of its layout's shape for a data type,
-- none without a layout
abbrev pub word_count : List Layout → Ty → ℕ
word_count layouts (Int bits) = 1
word_count layouts (Named t) = shape_length (layout_of layouts t)

-- The words represent the values one behind the other, each at the type in the same place: the words of the first,
-- and behind them those of the rest. There are as many values as types; where there are none, there are no words.
abbrev pub Represent : List DataDecl → List Layout → Memory → Bool → List Ty → List Value → List ℕ → Type 0
Represent types layouts m clean [] [] ws = ws ≡ []
Represent types layouts m clean [] (v ∷ vs) ws = ⊥
Represent types layouts m clean (t ∷ ts) [] ws = ⊥
Represent types layouts m clean (t ∷ ts) (v ∷ vs) ws =
    (first : List ℕ) × (rest : List ℕ) × (ws ≡ first ++ rest)
    × Represents types layouts m clean t v first × Represent types layouts m clean ts vs rest
