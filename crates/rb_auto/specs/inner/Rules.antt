-- Derived layouts obey the rules of agreement, each rule by itself, in any program with other layouts beside them. A
-- form says how the one word of a derived layout is used: boxed, or packed with so many bits for the tag, the
-- constructor's number, and for the word. `decls` are the layouts of the program, `rooms` how wide its derived words
-- are. A leaf is for the values of a pattern, its provenance; n is its number.
use Rattle.std.specs.Prelude.{ℕ, List, Some}
use Rattle.rb_core.specs.declared.program.Program.{Program}
use Rattle.rb_core.specs.declared.layout_decl.LayoutDecl.{LayoutDecl}
use Rattle.rb_layout.specs.declared.layout.Layout.{Layout}
use Rattle.rb_layout.specs.A1.{HasShape}
use Rattle.rb_layout.specs.A2.{HasRoot}
use Rattle.rb_layout.specs.A5.{IsApart, IsComplete}
use Rattle.rb_layout.specs.A7.{MeetsAll}
use Rattle.rb_layout.specs.A8.{AllSplitWell}
use Rattle.rb_layout.specs.A9.{LeafFlattens}
use Rattle.rb_auto.specs.declared.form.Form.{Form}
use Rattle.rb_auto.specs.declared.room.Room.{Room}
use Rattle.rb_auto.specs.Derived.{derived_layout}
use Rattle.rb_auto.specs.inner.Standing.{TagFits, EachDerivedLeaf, flat_derived}

-- P holds of any program with layouts `decls`, by any rooms, for any type t and form
abbrev pub OfEach : (Program → List LayoutDecl → List Room → ℕ → Form → Type 0) → Type 0
OfEach P = (p : Program) (decls : List LayoutDecl) (rooms : List Room) (t : ℕ) (form : Form) → P p decls rooms t form

-- A1: the word of a derived layout has 1 to 64 bits, where the tag fits
abbrev pub HasAShape : Type 0
HasAShape = OfEach (λ p decls rooms t form. TagFits p t form → HasShape (Some (derived_layout p rooms t form)))

-- A2: each leaf of a derived layout has one root word, of the shape's width
abbrev pub HasItsRoot : Type 0
HasItsRoot = OfEach (λ p decls rooms t form. EachDerivedLeaf p decls rooms t form
    (λ n leaf. HasRoot (flat_derived p decls rooms t form).shape leaf))

-- A5: no value has two leaves in a derived layout
abbrev pub HasOneLeaf : Type 0
HasOneLeaf = OfEach (λ p decls rooms t form. EachDerivedLeaf p decls rooms t form
    (IsApart p.types t (flat_derived p decls rooms t form)))

-- A5: each value has a leaf in a derived layout
abbrev pub HasALeaf : Type 0
HasALeaf = OfEach (λ p decls rooms t form. IsComplete p.types t (flat_derived p decls rooms t form))

-- A7: each leaf of a derived layout has the tag that the split asks of it, where the tag fits
abbrev pub MeetsItsTests : Type 0
MeetsItsTests = OfEach (λ p decls rooms t form. TagFits p t form → (layouts : List Layout)
    → EachDerivedLeaf p decls rooms t form
    (λ n leaf. MeetsAll p.types layouts (flat_derived p decls rooms t form).tree n leaf))

-- A8: the literals in the split of a derived layout are different and fit its bits, where the tag fits
abbrev pub SplitsItsTag : Type 0
SplitsItsTag = OfEach (λ p decls rooms t form. TagFits p t form → AllSplitWell (flat_derived p decls rooms t form))

-- A9: no leaf of a derived layout flattens a type
abbrev pub FlattensNothing : Type 0
FlattensNothing = OfEach (λ p decls rooms t form. EachDerivedLeaf p decls rooms t form
    (λ n leaf. (s : ℕ) → LeafFlattens leaf s → ⊥))
