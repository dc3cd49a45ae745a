-- Excluded numbers: those that a range of a word never has, whatever value its leaf holds. The range [o:l] is the l
-- bits from bit o on. A number c stands there where, for each i below l, bit o + i of the word is bit i of c.
use Rattle.std.specs.Prelude.{◌≡◌, ℕ, ◌+◌, ◌-◌, ◌<◌, ◌≤◌, min, max, length, Some, slice_get, List}
use Rattle.std.specs.Int.{bit_at}
use Rattle.rb_core.specs.declared.types.Ty.TheVariants.{Named}
use Rattle.rb_core.specs.declared.types.DataDecl.{DataDecl}
use Rattle.rb_core.specs.declared.layout_decl.Loc.{Loc}
use Rattle.rb_bits.specs.Words.{take_of}
use Rattle.rb_layout.specs.declared.layout.Leaf.{Leaf}
use Rattle.rb_layout.specs.declared.layout.Layout.{Layout}
use Rattle.rb_layout.specs.declared.layout.FlatWord.{FlatWord}
use Rattle.rb_layout.specs.declared.layout.Part.{Part}
use Rattle.rb_layout.specs.declared.layout.Kind.TheVariants.{Word, Pointer}
use Rattle.rb_layout.specs.Positions.{Open, open_positions, layout_of}
use Rattle.rb_layout.specs.Locations.{Reached, reached_at, constant_bit}

-- a constant part makes bit o + i of a flat word `bit`, where i is below l, and bit i of c is another
pub record HasOtherBit (f : FlatWord) (o l c : ℕ) : Type 0 where
  pub i : ℕ
  pub bit : ℕ
  pub inside : i < l
  pub constant : constant_bit f.parts (o + i) ≡ Some bit
  pub other : bit ≡ bit_at c i → ⊥

-- A pointer part of a flat word lies wholly in the range [o:l], and c has only zeros on its bits. No block begins at
-- address 0, so no pointer is 0. A pointer part without bits counts as well.
pub record HasNull (f : FlatWord) (o l c : ℕ) : Type 0 where
  pub number : ℕ
  pub part : Part
  pub align : ℕ
  pub block : ℕ
  pub is_part : slice_get f.parts number ≡ Some part
  pub is_pointer : part.kind ≡ Pointer align block
  pub first : o ≤ part.o
  pub last : part.o + part.l ≤ o + l
  pub zeros : take_of c (part.o - o) part.l ≡ 0

-- A part of a flat word has word j of a field of data type s, which is at an open position of the leaf's provenance.
-- The part begins at bit p of the flat word, and has the bits [a:b] in common with the range [o:l], at least one.
pub record MeetsRange (types : List DataDecl) (leaf : Leaf) (f : FlatWord) (o l s j p a b : ℕ) : Type 0 where
  pub number : ℕ
  pub part : Part
  pub is_part : slice_get f.parts number ≡ Some part
  pub from : part.o ≡ p
  pub open_number : ℕ
  pub place : Open
  pub is_open : slice_get (open_positions types leaf.prov) open_number ≡ Some place
  pub is_word : part.kind ≡ Word place.path j
  pub is_type : place.ty ≡ Named s
  pub first : a ≡ max o p
  pub last : a + b ≡ min (o + l) (p + part.l)
  pub some : 1 ≤ b

-- A flat word of a leaf bars c on the range [o:l]: a finite derivation by three rules shows that it never has c
-- there. `differs`: by a constant bit. `null`: by a pointer, which is never 0. `within`: by a field that the range
-- meets, of a type each of whose leaves has the root word that the part holds and bars c's bits there; a type without
-- a layout or without a leaf bars nothing.
pub data Bars (types : List DataDecl) (layouts : List Layout) : Leaf → FlatWord → ℕ → ℕ → ℕ → Type 0 where
  differs : (leaf : Leaf) (f : FlatWord) (o l c : ℕ) → HasOtherBit f o l c → Bars types layouts leaf f o l c
  null : (leaf : Leaf) (f : FlatWord) (o l c : ℕ) → HasNull f o l c → Bars types layouts leaf f o l c
  -- type s has a leaf, and in each of its leaves root word j bars c's bits of [a:b] on the range [a - p:b]
  within : (leaf : Leaf) (f : FlatWord) (o l c s j p a b : ℕ) → MeetsRange types leaf f o l s j p a b
      → (layout : Layout) → layout_of layouts s ≡ Some layout → 0 < length layout.leaves
      → ((n : ℕ) (under : Leaf) → slice_get layout.leaves n ≡ Some under → (g : FlatWord)
      × (slice_get under.root j ≡ Some g))
      → ((n : ℕ) (under : Leaf) (g : FlatWord) → slice_get layout.leaves n ≡ Some under
      → slice_get under.root j ≡ Some g
      → Bars types layouts under g (a - p) b (take_of c (a - o) b))
      → Bars types layouts leaf f o l c

-- A leaf excludes c at a location: the location resolves in it, and the word that it comes to bars c on the last
-- range. At a location that does not resolve nothing is excluded.
pub record Excludes (types : List DataDecl) (layouts : List Layout) (leaf : Leaf) (loc : Loc) (c : ℕ) : Type 0 where
  pub reached : Reached
  pub resolves : reached_at leaf loc ≡ Some reached
  pub bars : Bars types layouts leaf reached.word reached.o reached.l c
