-- A program completed by derived layouts: the written ones, and after them the derived ones. A derived layout is one
-- that is left to the compiler; `kinds` says for each type, by its number, which it is, boxed or packed, if any. A
-- provenance is the pattern of the values for which a leaf of a layout is.
use Rattle.std.specs.Prelude.{◌≡◌, ℕ, ◌<◌, ◌++◌, List, length, Option, Some, None, Ok, slice_get}
use Rattle.rb_core.specs.declared.types.Auto.{Auto}
use Rattle.rb_core.specs.declared.program.Program.{Program}
use Rattle.rb_core.specs.declared.layout_decl.LayoutDecl.{LayoutDecl}
use Rattle.rb_core.specs.TypedPrograms.{layout_fault}
use Rattle.rb_layout.specs.Flattening.{decl_of}
use Rattle.rb_auto.specs.Rooms.{kind_of}
use Rattle.rb_auto.specs.Answers.{IsDerivedAnswer}

-- a program with these layouts in the place of its own
abbrev pub with_layouts : Program → List LayoutDecl → Program
with_layouts p decls = record p { layouts = decls }

-- each of these layouts is what is derived for its type; each type of program p of which one is to be derived has one
-- there, and none that is written
pub record Completes (p : Program) (kinds : List (Option Auto)) (derived : List LayoutDecl) : Type 0 where
  pub each : (k : ℕ) (d : LayoutDecl) → slice_get derived k ≡ Some d → IsDerivedAnswer p kinds d.ty (Ok d)
  pub all : (t : ℕ) (kind : Auto) → t < length p.types → kind_of kinds t ≡ Some kind
      → (d : LayoutDecl) × (decl_of derived t ≡ Some d)
  pub alone : (t : ℕ) (kind : Auto) → kind_of kinds t ≡ Some kind → decl_of p.layouts t ≡ None

-- a program completed by derived layouts: its own ones, and these after them
abbrev pub completed_program : Program → List LayoutDecl → Program
completed_program p derived = with_layouts p (p.layouts ++ derived)

-- each provenance in a program's layouts is a pattern of the layout's type
abbrev pub HaveTypedProvenances : Program → Type 0
HaveTypedProvenances p = (k : ℕ) (d : LayoutDecl) → slice_get p.layouts k ≡ Some d → layout_fault p.types d ≡ None
