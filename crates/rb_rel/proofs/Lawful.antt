-- What the laws of representation need of layouts.
use Rattle.std.specs.Prelude.{◌+◌, ◌≤◌, true, ◌≡◌, ℕ, ◌<◌, List, Some, slice_get}
use Rattle.rb_core.specs.declared.types.Ty.{Ty}
use Rattle.rb_core.specs.declared.types.Ty.TheVariants.{Int, Named}
use Rattle.rb_core.specs.declared.pattern.Pat.{out-Pat}
use Rattle.rb_core.specs.WellNumbered.{is_provenance}
use Rattle.rb_core.specs.declared.types.DataDecl.{DataDecl}
use Rattle.rb_layout.specs.declared.layout.Leaf.{Leaf}
use Rattle.rb_layout.specs.declared.layout.FlatWord.{FlatWord}
use Rattle.rb_layout.specs.declared.layout.Part.{Part}
use Rattle.rb_layout.specs.declared.layout.Kind.TheVariants.{Bits, Word}
use Rattle.rb_layout.specs.declared.layout.WordRef.{WordRef}
use Rattle.rb_layout.specs.declared.layout.Layout.{Layout}
use Rattle.rb_layout.specs.Words.{flat_at}
use Rattle.rb_layout.specs.Positions.{Open, open_positions, root_type}
use Rattle.rb_rel.specs.Provenances.{fits_type}
use Rattle.rb_rel.specs.Relation.{word_count}
use Rattle.rb_layout.specs.Splits.{Route, routes_of}
use Rattle.rb_layout.specs.Flat.{IsFlat}
use Rattle.rb_layout.specs.Each.{EachLeaf}
use Rattle.rb_layout.specs.A7.{A7}
use Rattle.rb_layout.specs.A8.{A8}

abbrev pub AllFlat : List Layout → Type 0
AllFlat layouts = EachLeaf layouts (λ t layout n leaf. IsFlat leaf)

-- each leaf is below the tree of splits
abbrev pub AllReached : List Layout → Type 0
AllReached layouts = EachLeaf layouts (λ t layout n leaf. (k : ℕ) × (r : Route) × (slice_get (routes_of layout.tree) k ≡ Some r) × (r.leaf ≡ n))

-- Provenances ---------------------------------------------------------------------------------

-- the provenances are patterns of their types, with constructors at their roots and wildcards or constructors below
pub record ProvenancesFit (types : List DataDecl) (layouts : List Layout) : Type 0 where
  pub root : EachLeaf layouts (λ t layout n leaf. root_type (out-Pat leaf.prov) ≡ Named t)
  pub fits : EachLeaf layouts (λ t layout n leaf. fits_type types leaf.prov (Named t) ≡ true)
  pub shaped : EachLeaf layouts (λ t layout n leaf. is_provenance leaf.prov ≡ true)

-- Holding -------------------------------------------------------------------------------------

-- a part holds unit i of the position at a path: bit i of an integer, word i of a data type
abbrev pub HoldsUnit : Ty → List ℕ → ℕ → Part → Type 0
HoldsUnit (Int bits) path i p = (a : ℕ) × (p.kind ≡ Bits path a) × (a ≤ i) × (i < a + p.l)
HoldsUnit (Named t) path i p = p.kind ≡ Word path i

pub record Holder (leaf : Leaf) (ty : Ty) (path : List ℕ) (i : ℕ) : Type 0 where
  pub ref : WordRef
  pub word : FlatWord
  pub is_word : flat_at leaf ref ≡ Some word
  pub number : ℕ
  pub part : Part
  pub is_part : slice_get word.parts number ≡ Some part
  pub is_holder : HoldsUnit ty path i part

-- the units of a type: bits, or words
abbrev pub units_of : List Layout → Ty → ℕ
units_of layouts (Int bits) = bits
units_of layouts (Named t) = word_count layouts (Named t)

-- each unit of each open position is held
abbrev pub AllHeld : List DataDecl → List Layout → Type 0
AllHeld types layouts = EachLeaf layouts (λ t layout n leaf.
    (k : ℕ) (o : Open) (i : ℕ) → slice_get (open_positions types leaf.prov) k ≡ Some o → i < units_of layouts o.ty → Holder leaf o.ty o.path i)

-- all that the laws need, of the rules of agreement and of flat forms
pub record Lawful (types : List DataDecl) (layouts : List Layout) : Type 0 where
  pub flat : AllFlat layouts
  pub reached : AllReached layouts
  pub met : A7 types layouts
  pub split : A8 layouts
  pub all_held : AllHeld types layouts
  pub provenances : ProvenancesFit types layouts
