-- A derived layout in a program that has other layouts beside the written ones, and its flat form there. The flat
-- form of a layout has for each leaf its root words and its blocks, with inlined fields put in; the rules are about
-- it. A form says how the one word of a derived layout is used: boxed, or packed with so many bits for the tag, the
-- constructor's number, and for the word. `rooms` says for each type how wide its word is where its layout is
-- derived.
use Rattle.std.specs.Prelude.{◌≡◌, ℕ, ◌^◌, ◌<◌, ◌≤◌, length, List, Some, slice_get}
use Rattle.rb_core.specs.declared.program.Program.{Program}
use Rattle.rb_core.specs.declared.layout_decl.LayoutDecl.{LayoutDecl}
use Rattle.rb_layout.specs.declared.layout.Layout.{Layout}
use Rattle.rb_layout.specs.declared.layout.Leaf.{Leaf}
use Rattle.rb_layout.specs.Flattening.{flat_layout}
use Rattle.rb_layout.specs.A1.{IsShapeWidth}
use Rattle.rb_auto.specs.declared.form.Form.{Form}
use Rattle.rb_auto.specs.declared.room.Room.{Room}
use Rattle.rb_auto.specs.Fields.{cons_of}
use Rattle.rb_auto.specs.Items.{form_tag, form_width}
use Rattle.rb_auto.specs.Derived.{derived_layout}
use Rattle.rb_auto.specs.Completed.{with_layouts}

-- the tag tells the type's constructors apart, of which there is one at least, and the word has room for it
pub record TagFits (p : Program) (t : ℕ) (form : Form) : Type 0 where
  pub some : 0 < length (cons_of p.types t)
  pub told : length (cons_of p.types t) ≤ 2 ^ form_tag form
  pub width : IsShapeWidth (form_width form)
  pub tag : form_tag form ≤ form_width form

module _ (p : Program) (decls : List LayoutDecl) (rooms : List Room) (t : ℕ) (form : Form) where
  -- the flat form of the layout derived for type t in this form, in program p with the layouts `decls`
  abbrev pub flat_derived : Layout
  flat_derived = flat_layout (with_layouts p decls) (derived_layout p rooms t form)

  -- P holds of each leaf of the flat derived layout, with its number
  abbrev pub EachDerivedLeaf : (ℕ → Leaf → Type 0) → Type 0
  EachDerivedLeaf P = (n : ℕ) (leaf : Leaf) → slice_get flat_derived.leaves n ≡ Some leaf → P n leaf
