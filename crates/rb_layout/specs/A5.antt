-- A5: no value fits two provenances of a layout, and each value of the type fits one. A leaf is the form of the values
-- of one pattern, its provenance. t is the number of the type whose layout it is.
use Rattle.std.specs.Prelude.{◌≡◌, ℕ, ◌<◌, List, [], true, Some, Ok, slice_get}
use Rattle.rb_core.specs.declared.value.Value.{Value}
use Rattle.rb_core.specs.declared.pattern.Pat.{Pat}
use Rattle.rb_core.specs.declared.types.Ty.TheVariants.{Named}
use Rattle.rb_core.specs.declared.types.DataDecl.{DataDecl}
use Rattle.rb_core.specs.Values.{is_of_type}
use Rattle.rb_core.specs.Matching.{matches_of}
use Rattle.rb_core.specs.Typing.{pattern_binders}
use Rattle.rb_layout.specs.declared.layout.Layout.{Layout}
use Rattle.rb_layout.specs.declared.layout.Leaf.{Leaf}
use Rattle.rb_layout.specs.declared.evidence.Why.{Why}
use Rattle.rb_layout.specs.declared.evidence.Why.TheVariants.{Common, NoLeaf}
use Rattle.rb_layout.specs.Each.{EachLayout, EachLeaf}

-- the value is of data type t
abbrev pub IsOf : List DataDecl → ℕ → Value → Type 0
IsOf types t v = is_of_type types v (Named t) ≡ true

-- the provenance matches the value
abbrev pub Matches : Pat → Value → Type 0
Matches prov v = matches_of prov v ≡ true

-- some leaf of the layout has a provenance that matches the value
abbrev pub HasMatchingLeaf : Layout → Value → Type 0
HasMatchingLeaf layout v = (n : ℕ) × (leaf : Leaf) × (slice_get layout.leaves n ≡ Some leaf) × Matches leaf.prov v

-- every value of data type t has a leaf in its layout
abbrev pub IsComplete : List DataDecl → ℕ → Layout → Type 0
IsComplete types t layout = (v : Value) → IsOf types t v → HasMatchingLeaf layout v

-- two provenances have a value of data type t in common, which both match
abbrev pub HaveCommon : List DataDecl → ℕ → Pat → Pat → Type 0
HaveCommon types t p q = (v : Value) × IsOf types t v × Matches p v × Matches q v

-- leaf n and each later leaf of the layout have no common value
abbrev pub IsApart : List DataDecl → ℕ → Layout → ℕ → Leaf → Type 0
IsApart types t layout n leaf =
    (m : ℕ) (later : Leaf) → n < m → slice_get layout.leaves m ≡ Some later
    → HaveCommon types t leaf.prov later.prov → ⊥

-- The rule. `apart`: no two leaves of a layout have a common value, each leaf being held against the later ones.
-- `complete`: each value of a layout's type has a leaf.
pub record A5 (types : List DataDecl) (layouts : List Layout) : Type 0 where
  pub apart : EachLeaf layouts (IsApart types)
  pub complete : EachLayout layouts (IsComplete types)

-- A pattern that shows a gap in the layout of data type t: it is well typed and binds no variable, some value of the
-- type matches it, and no value of the type that matches it has a leaf.
pub record IsWithoutLeaf (types : List DataDecl) (t : ℕ) (layout : Layout) (q : Pat) : Type 0 where
  pub plain : pattern_binders types q (Named t) ≡ Ok []
  pub value : Value
  pub typed : IsOf types t value
  pub matched : Matches q value
  pub none : (v : Value) → IsOf types t v → Matches q v → HasMatchingLeaf layout v → ⊥

-- how a layout fails to have a leaf for each value of its type, by the evidence: a pattern whose values have none; no
-- other evidence fails this half of the rule
abbrev pub FailsComplete : List DataDecl → ℕ → Layout → Why → Type 0
FailsComplete types t layout (NoLeaf q) = IsWithoutLeaf types t layout q
FailsComplete types t layout why = ⊥

-- how leaf n fails to be apart from the later ones, by the evidence: leaf m comes later and has a common value with
-- it; no other evidence fails this half of the rule
abbrev pub FailsApart : List DataDecl → ℕ → Layout → ℕ → Leaf → Why → Type 0
FailsApart types t layout n leaf (Common m) =
    (n < m) × (later : Leaf) × (slice_get layout.leaves m ≡ Some later) × HaveCommon types t leaf.prov later.prov
FailsApart types t layout n leaf why = ⊥
