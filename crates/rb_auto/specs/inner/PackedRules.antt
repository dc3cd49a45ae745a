-- Packed layouts obey the rules of agreement on blocks, parts and fields. A packed layout has one word, of `width`
-- bits, with a tag of `tag` bits, the constructor's number, and behind it the words of the fields. `decls` are the
-- layouts of the program, `rooms` how wide its derived words are. An item of a leaf is a word with its parts or an
-- inlined field; a block is words to which a pointer leads.
use Rattle.std.specs.Prelude.{◌≡◌, ℕ, ◌+◌, ◌≤◌, List, Some, slice_get}
use Rattle.rb_core.specs.declared.types.Con.{Con}
use Rattle.rb_core.specs.declared.types.Ty.{Ty}
use Rattle.rb_core.specs.declared.types.Ty.TheVariants.{Int, Named}
use Rattle.rb_core.specs.declared.program.Program.{Program}
use Rattle.rb_core.specs.declared.layout_decl.LayoutDecl.{LayoutDecl}
use Rattle.rb_layout.specs.Positions.{open_positions}
use Rattle.rb_layout.specs.Flattening.{decl_of, shape_of}
use Rattle.rb_layout.specs.Items.{Item, items_of}
use Rattle.rb_layout.specs.A1.{IsShapeWidth}
use Rattle.rb_layout.specs.A3.{ItemFits}
use Rattle.rb_layout.specs.A4.{HasBlocks}
use Rattle.rb_layout.specs.A6.{HoldsOnce}
use Rattle.rb_auto.specs.declared.form.Form.TheVariants.{Packed}
use Rattle.rb_auto.specs.declared.room.Room.{Room}
use Rattle.rb_auto.specs.Fields.{cons_of}
use Rattle.rb_auto.specs.Widths.{con_width, shape}
use Rattle.rb_auto.specs.Derived.{derived_layout}
use Rattle.rb_auto.specs.Completed.{with_layouts}
use Rattle.rb_auto.specs.inner.Standing.{EachDerivedLeaf, TagFits}

-- A4: each leaf of a packed layout obeys it, having no blocks and no pointers
abbrev pub HasNoBlocks : Type 0
HasNoBlocks = (p : Program) (decls : List LayoutDecl) (rooms : List Room) (t tag width : ℕ)
    → EachDerivedLeaf p decls rooms t (Packed tag width) (λ n leaf. HasBlocks leaf)

-- a field's type is an integer of 1 to 64 bits, or has the shape by which the layout was derived
abbrev pub FieldFits : Program → List LayoutDecl → List Room → Ty → Type 0
FieldFits p decls rooms (Int bits) = IsShapeWidth bits
FieldFits p decls rooms (Named s) = shape_of decls s ≡ shape p rooms s

-- each field of a constructor of type t has a type that fits, as `FieldFits` says
pub record FieldsFit (p : Program) (decls : List LayoutDecl) (rooms : List Room) (t : ℕ) : Type 0 where
  pub each : (k : ℕ) (c : Con) (i : ℕ) (ty : Ty) → slice_get (cons_of p.types t) k ≡ Some c
      → slice_get c.fields i ≡ Some ty → FieldFits p decls rooms ty

-- each constructor of type t has room for its fields in a word of `width` bits, behind a tag of `tag` bits
abbrev pub HasRoom : Program → List Room → ℕ → ℕ → ℕ → Type 0
HasRoom p rooms t tag width =
    (k : ℕ) (c : Con) → slice_get (cons_of p.types t) k ≡ Some c → tag + con_width p rooms c ≤ width

-- A3: the parts of a packed layout's words lie in them, are disjoint and fit what they hold, where the tag and the
-- fields fit and the word has room for them
abbrev pub HasFittingParts : Type 0
HasFittingParts = (p : Program) (decls : List LayoutDecl) (rooms : List Room) (t tag width : ℕ)
    → TagFits p t (Packed tag width) → FieldsFit p decls rooms t → HasRoom p rooms t tag width
    → decl_of decls t ≡ Some (derived_layout p rooms t (Packed tag width))
    → EachDerivedLeaf p decls rooms t (Packed tag width) (λ n leaf. (i : ℕ) (item : Item)
    → slice_get (items_of decls t n) i ≡ Some item → ItemFits decls (open_positions p.types leaf.prov) item)

-- A6: a leaf of a packed layout holds each bit or word of each field once, and nothing else, where the fields fit
abbrev pub HoldsItsFields : Type 0
HoldsItsFields = (p : Program) (decls : List LayoutDecl) (rooms : List Room) (t tag width : ℕ)
    → FieldsFit p decls rooms t → decl_of decls t ≡ Some (derived_layout p rooms t (Packed tag width))
    → EachDerivedLeaf p decls rooms t (Packed tag width)
    (λ n leaf. HoldsOnce (with_layouts p decls) leaf (items_of decls t n))
