-- Derived layouts obey the rules of agreement, in the program that they complete. Each rule, A1 to A10, is about a
-- layout, a leaf of it or an item of that. A leaf is for the values of its provenance, a pattern; its root words are
-- those of the value itself, whose widths are the shape, and its items are its words and inlined fields as they are
-- written. A layout flattens a type, a constructor of which stands below the root of the provenance of one of its
-- leaves. `kinds` says for each type which layout is derived for it, if any.
use Rattle.std.specs.Prelude.{◌≡◌, ℕ, ◌<◌, List, length, Option, Some, slice_get}
use Rattle.rb_core.specs.declared.types.Auto.{Auto}
use Rattle.rb_core.specs.declared.types.Auto.TheVariants.{Packed}
use Rattle.rb_core.specs.declared.program.Program.{Program}
use Rattle.rb_core.specs.declared.layout_decl.LayoutDecl.{LayoutDecl}
use Rattle.rb_core.specs.WellNumbered.{IsWellNumbered}
use Rattle.rb_layout.specs.declared.layout.Layout.{Layout}
use Rattle.rb_layout.specs.declared.layout.Leaf.{Leaf}
use Rattle.rb_layout.specs.Positions.{layout_of, open_positions}
use Rattle.rb_layout.specs.Flattening.{HaveLayouts, decl_of, flat_layouts}
use Rattle.rb_layout.specs.Items.{Item, items_of}
use Rattle.rb_layout.specs.Cycles.{HasNoCycle}
use Rattle.rb_layout.specs.A1.{HasShape}
use Rattle.rb_layout.specs.A2.{HasRoot}
use Rattle.rb_layout.specs.A3.{ItemFits}
use Rattle.rb_layout.specs.A4.{HasBlocks}
use Rattle.rb_layout.specs.A5.{IsApart, IsComplete}
use Rattle.rb_layout.specs.A6.{HoldsOnce}
use Rattle.rb_layout.specs.A7.{MeetsAll}
use Rattle.rb_layout.specs.A8.{AllSplitWell}
use Rattle.rb_layout.specs.A9.{Flattens, HasPointerPart}
use Rattle.rb_layout.specs.A10.{HoldsField}
use Rattle.rb_auto.specs.Fields.{HasField}
use Rattle.rb_auto.specs.Rooms.{kind_of}
use Rattle.rb_auto.specs.Completed.{Completes, HaveTypedProvenances, completed_program}

module _ (layouts : List Layout) (t : ℕ) where
  -- P holds of the layout of type t, if the type has one
  abbrev pub AtLayout : (Layout → Type 0) → Type 0
  AtLayout P = (layout : Layout) → layout_of layouts t ≡ Some layout → P layout

  -- P holds of each leaf of the layout of type t, together with that layout and the leaf's number
  abbrev pub AtLeaves : (Layout → ℕ → Leaf → Type 0) → Type 0
  AtLeaves P = AtLayout (λ layout. (n : ℕ) (leaf : Leaf) → slice_get layout.leaves n ≡ Some leaf → P layout n leaf)

-- the layout of type t, one of these, obeys the rules A1 to A8
pub record ObeysAt (p : Program) (layouts : List Layout) (t : ℕ) : Type 0 where
  pub a1 : HasShape (decl_of p.layouts t)
  pub a2 : AtLeaves layouts t (λ layout n leaf. HasRoot layout.shape leaf)
  pub a3 : AtLeaves layouts t (λ layout n leaf. (i : ℕ) (item : Item) → slice_get (items_of p.layouts t n) i ≡ Some item
      → ItemFits p.layouts (open_positions p.types leaf.prov) item)
  pub a4 : AtLeaves layouts t (λ layout n leaf. HasBlocks leaf)
  pub apart : AtLeaves layouts t (IsApart p.types t)
  pub complete : AtLayout layouts t (IsComplete p.types t)
  pub a6 : AtLeaves layouts t (λ layout n leaf. HoldsOnce p leaf (items_of p.layouts t n))
  pub a7 : AtLeaves layouts t (λ layout n leaf. MeetsAll p.types layouts layout.tree n leaf)
  pub a8 : AtLayout layouts t AllSplitWell

-- each data type that type t has as a field has a layout with a shape of words of 1 to 64 bits
abbrev pub FieldsHaveShapes : Program → ℕ → Type 0
FieldsHaveShapes p t = (s : ℕ) → HasField p.types t s → HasShape (decl_of p.layouts s)

-- P holds for each type t for which a layout is derived: p has the written layouts, and q all, one for each type at
-- least
abbrev pub OfEachDerived : (Program → Program → ℕ → Auto → Type 0) → Type 0
OfEachDerived P = (p : Program) (kinds : List (Option Auto)) (derived : List LayoutDecl)
    → IsWellNumbered p → Completes p kinds derived → HaveLayouts (completed_program p derived)
    → (t : ℕ) (kind : Auto) → t < length p.types → kind_of kinds t ≡ Some kind
    → P p (completed_program p derived) t kind

-- A1 to A8: a derived layout obeys them, where the data types of its type's fields have shapes
abbrev pub DerivedObey : Type 0
DerivedObey = OfEachDerived (λ p q t kind. FieldsHaveShapes q t → ObeysAt q (flat_layouts q) t)

-- A9: a derived layout flattens nothing
abbrev pub DerivedFlattenNothing : Type 0
DerivedFlattenNothing = OfEachDerived (λ p q t kind. (s : ℕ) → Flattens (flat_layouts q) t s → ⊥)

-- A9: a packed layout has no pointer in its leaves, so that its type may be flattened
abbrev pub PackedHaveNoPointer : Type 0
PackedHaveNoPointer = OfEachDerived (λ p q t kind. kind ≡ Packed → HasPointerPart (flat_layouts q) t → ⊥)

-- A10: a derived layout stands on no cycle of types that hold each other in root words, where provenances are typed
abbrev pub DerivedAreOnNoCycle : Type 0
DerivedAreOnNoCycle =
    OfEachDerived (λ p q t kind. HaveTypedProvenances p → HasNoCycle (HoldsField q.types (flat_layouts q)) t)
