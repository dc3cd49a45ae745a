-- A10: there is no cycle of types in which the root words of each hold a field of the next. Types are named by their
-- numbers.
use Rattle.std.specs.Prelude.{◌≡◌, ℕ, List, Some, slice_get}
use Rattle.rb_core.specs.declared.types.Ty.TheVariants.{Named}
use Rattle.rb_core.specs.declared.types.DataDecl.{DataDecl}
use Rattle.rb_layout.specs.declared.layout.Layout.{Layout}
use Rattle.rb_layout.specs.declared.layout.Leaf.{Leaf}
use Rattle.rb_layout.specs.declared.layout.FlatWord.{FlatWord}
use Rattle.rb_layout.specs.declared.layout.Part.{Part}
use Rattle.rb_layout.specs.declared.layout.Kind.TheVariants.{Word}
use Rattle.rb_layout.specs.declared.evidence.Why.{Why}
use Rattle.rb_layout.specs.declared.evidence.Why.TheVariants.{HoldCycle}
use Rattle.rb_layout.specs.Positions.{open_positions, layout_of}
use Rattle.rb_layout.specs.Flattening.{type_at}
use Rattle.rb_layout.specs.Cycles.{HasNoCycle, IsCycleFrom}
use Rattle.rb_layout.specs.Each.{EachLayout}

-- the root words of type t hold a field of type s: in some leaf of t's layout a part of a root word has a word of the
-- field at a path, and the leaf's provenance has an open position of type s there
pub record HoldsField (types : List DataDecl) (layouts : List Layout) (t s : ℕ) : Type 0 where
  pub layout : Layout
  pub leaf_number : ℕ
  pub leaf : Leaf
  pub word_number : ℕ
  pub word : FlatWord
  pub part_number : ℕ
  pub part : Part
  pub path : List ℕ
  pub index : ℕ
  pub is_layout : layout_of layouts t ≡ Some layout
  pub is_leaf : slice_get layout.leaves leaf_number ≡ Some leaf
  pub is_word : slice_get leaf.root word_number ≡ Some word
  pub is_part : slice_get word.parts part_number ≡ Some part
  pub is_kind : part.kind ≡ Word path index
  pub is_field : type_at (open_positions types leaf.prov) path ≡ Some (Named s)

-- the rule: no type that has a layout is on a cycle of types, each of which holds a field of the next in root words
abbrev pub A10 : List DataDecl → List Layout → Type 0
A10 types layouts = EachLayout layouts (λ t layout. HasNoCycle (HoldsField types layouts) t)

-- how type t fails the rule, by the evidence: a cycle of types is listed from t on, each of which holds a field of
-- the next in root words; no other evidence fails the rule
abbrev pub FailsHolding : List DataDecl → List Layout → ℕ → Why → Type 0
FailsHolding types layouts t (HoldCycle ts) = IsCycleFrom (HoldsField types layouts) t ts
FailsHolding types layouts t why = ⊥
