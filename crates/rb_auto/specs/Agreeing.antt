-- A completed program agrees where its written layouts obey the rules and flatten no boxed type. A program agrees
-- where its layouts obey the rules A1 to A10. A layout flattens a type, a constructor of which stands below the root
-- of the provenance of one of its leaves, and holds one where a word of an open field of that type stands in the root
-- words of a leaf. `kinds` says for each type which layout is derived for it, boxed or packed, if any. `layouts` are
-- the flat forms of a program's layouts.
use Rattle.std.specs.Prelude.{◌≡◌, ℕ, ◌<◌, List, length, Option, Some, None}
use Rattle.rb_core.specs.declared.types.Auto.{Auto}
use Rattle.rb_core.specs.declared.types.Auto.TheVariants.{Boxed}
use Rattle.rb_core.specs.declared.program.Program.{Program}
use Rattle.rb_core.specs.declared.layout_decl.LayoutDecl.{LayoutDecl}
use Rattle.rb_core.specs.WellNumbered.{IsWellNumbered}
use Rattle.rb_layout.specs.declared.layout.Layout.{Layout}
use Rattle.rb_layout.specs.Flattening.{flat_layouts}
use Rattle.rb_layout.specs.Cycles.{HasNoCycle}
use Rattle.rb_layout.specs.A9.{Flattens, HasPointerPart}
use Rattle.rb_layout.specs.A10.{HoldsField}
use Rattle.rb_layout.specs.Agreement.{Agrees}
use Rattle.rb_auto.specs.Rooms.{kind_of}
use Rattle.rb_auto.specs.Completed.{Completes, HaveTypedProvenances, completed_program}
use Rattle.rb_auto.specs.Obeying.{ObeysAt}

module _ (kinds : List (Option Auto)) where
  -- type t is none of those for which a layout is derived
  abbrev pub IsWritten : ℕ → Type 0
  IsWritten t = kind_of kinds t ≡ None

  -- relation R leads from type t to type s, and for neither of them a layout is derived
  abbrev pub AmongWritten : (ℕ → ℕ → Type 0) → ℕ → ℕ → Type 0
  AmongWritten R t s = IsWritten t × IsWritten s × R t s

-- the written layouts of a completed program obey the rules: those on pointers and cycles among themselves
pub record WrittenObey (p : Program) (kinds : List (Option Auto)) (layouts : List Layout) : Type 0 where
  pub each : (t : ℕ) → t < length p.types → IsWritten kinds t → ObeysAt p layouts t
  pub no_pointer : (t s : ℕ) → AmongWritten kinds (Flattens layouts) t s → HasPointerPart layouts s → ⊥
  pub no_flattening : (t : ℕ) → HasNoCycle (AmongWritten kinds (Flattens layouts)) t
  pub no_holding : (t : ℕ) → HasNoCycle (AmongWritten kinds (HoldsField p.types layouts)) t

-- no type without a derived layout flattens a type whose derived layout is boxed
abbrev pub FlattenNoBoxed : List (Option Auto) → List Layout → Type 0
FlattenNoBoxed kinds layouts = (t s : ℕ) → IsWritten kinds t → Flattens layouts t s → kind_of kinds s ≡ Some Boxed → ⊥

-- The law. A well numbered program with typed provenances, completed by the layouts derived for it, agrees where its
-- written layouts obey the rules and flatten no boxed type.
abbrev pub CompletedAgree : Type 0
CompletedAgree = (p : Program) (kinds : List (Option Auto)) (derived : List LayoutDecl)
    → IsWellNumbered p → HaveTypedProvenances p → Completes p kinds derived
    → WrittenObey (completed_program p derived) kinds (flat_layouts (completed_program p derived))
    → FlattenNoBoxed kinds (flat_layouts (completed_program p derived)) → Agrees (completed_program p derived)
