-- Leaves whose parts are alike in a range of a root word, so that they exclude the same numbers there. A part is some
-- bits of a word of a leaf, p.l in number from bit p.o on, with what they hold; a range is l bits from bit o on. A
-- location leads to a range, in a root word where it has no steps through pointers. A leaf excludes a number at a
-- location where the bits there are never that number. An open position is a wildcard or a variable in a leaf's
-- provenance; its path is the field numbers that lead there from the root.
use Rattle.std.specs.Prelude.{◌≡◌, ◌⊎◌, ℕ, ◌+◌, ◌≤◌, List, [], length, Some, slice_get}
use Rattle.rb_core.specs.declared.types.DataDecl.{DataDecl}
use Rattle.rb_core.specs.declared.pattern.Pat.{Pat}
use Rattle.rb_core.specs.declared.layout_decl.Loc.{Loc}
use Rattle.rb_layout.specs.declared.layout.Leaf.{Leaf}
use Rattle.rb_layout.specs.declared.layout.FlatWord.{FlatWord}
use Rattle.rb_layout.specs.declared.layout.Part.{Part}
use Rattle.rb_layout.specs.declared.layout.Kind.{Kind}
use Rattle.rb_layout.specs.declared.layout.Kind.TheVariants.{Const, Bits, Word, Pointer}
use Rattle.rb_layout.specs.Positions.{open_positions}
use Rattle.rb_layout.specs.Flattening.{type_at}

-- a part has a bit, and none of the l bits from o on
abbrev pub IsBeside : ℕ → ℕ → Part → Type 0
IsBeside o l p = (1 ≤ p.l) × ((p.o + p.l ≤ o) ⊎ (o + l ≤ p.o))

module _ (types : List DataDecl) (one other : Pat) where
  -- what two parts hold is alike: the same number, or a pointer each, or bits each, or words with the same number of
  -- fields of one type, open in the provenances `one` and `other`, or of fields that are open in neither
  abbrev pub AreKinds : Kind → Kind → Type 0
  AreKinds (Const c) (Const d) = c ≡ d
  AreKinds (Const c) (Bits q b) = ⊥
  AreKinds (Const c) (Word q k) = ⊥
  AreKinds (Const c) (Pointer a b) = ⊥
  AreKinds (Bits p a) (Const d) = ⊥
  AreKinds (Bits p a) (Bits q b) = Unit {0}
  AreKinds (Bits p a) (Word q k) = ⊥
  AreKinds (Bits p a) (Pointer b c) = ⊥
  AreKinds (Word p j) (Const d) = ⊥
  AreKinds (Word p j) (Bits q b) = ⊥
  AreKinds (Word p j) (Word q k) =
      (j ≡ k) × (type_at (open_positions types one) p ≡ type_at (open_positions types other) q)
  AreKinds (Word p j) (Pointer b c) = ⊥
  AreKinds (Pointer a b) (Const d) = ⊥
  AreKinds (Pointer a b) (Bits q c) = ⊥
  AreKinds (Pointer a b) (Word q k) = ⊥
  AreKinds (Pointer a b) (Pointer c d) = Unit {0}

  -- two parts lie beside the l bits from o on, or take the same bits and are alike in what they hold
  abbrev pub IsPartAlike : ℕ → ℕ → Part → Part → Type 0
  IsPartAlike o l p q = (IsBeside o l p × IsBeside o l q) ⊎ ((p.o ≡ q.o) × (p.l ≡ q.l) × AreKinds p.kind q.kind)

  -- two words have as many parts, and each is alike, in the l bits from o on, to that in its place in the other word
  abbrev pub ArePartsAlike : ℕ → ℕ → List Part → List Part → Type 0
  ArePartsAlike o l ps qs = (length ps ≡ length qs)
      × ((k : ℕ) (p q : Part) → slice_get ps k ≡ Some p → slice_get qs k ≡ Some q → IsPartAlike o l p q)

-- two leaves are alike at a location: it is one in a root word, which has the same width in both, and parts that are
-- alike in the location's range
pub record AreAlike (types : List DataDecl) (one other : Leaf) (loc : Loc) : Type 0 where
  pub root : loc.steps ≡ []
  pub first : FlatWord
  pub second : FlatWord
  pub is_first : slice_get one.root loc.word ≡ Some first
  pub is_second : slice_get other.root loc.word ≡ Some second
  pub width : first.width ≡ second.width
  pub parts : ArePartsAlike types one.prov other.prov loc.o loc.l first.parts second.parts
