-- Layouts that are derived one after the other. A derived layout is one that the file leaves to the compiler; `kinds`
-- says for each type, by its number, which it is, boxed or packed, if any. The answer for a type is its layout or a
-- refusal: why it gets none.
use Rattle.std.specs.Prelude.{◌≡◌, ℕ, List, [], ◌∷◌, ◌++◌, Option}
use Rattle.std.specs.Option.{option_or}
use Rattle.rb_core.specs.declared.types.Auto.{Auto}
use Rattle.rb_core.specs.declared.program.Program.{Program}
use Rattle.rb_auto.specs.Answers.{Derives}
use Rattle.rb_auto.specs.Completed.{completed_program}
use Rattle.rb_names.specs.declared.complete.Completed.{Completed}
use Rattle.rb_names.specs.declared.derivation.Derived.{Derived}
use Rattle.rb_names.specs.Tables.{Name, Table, meaning}
use Rattle.rb_names.specs.Completing.{AreDerived, IsDerived, first_refusal, layouts_in}

-- each name stands for the same in both tables
abbrev pub MeanTheSame : {A : Type 0} → Table A → Table A → Type 0
MeanTheSame t u = (name : Name) → meaning t name ≡ meaning u name

-- after is before with the answer for type t counted in: its layout at the end, or its refusal, where it is the first
pub record IsNext (p : Program) (kinds : List (Option Auto)) (t : ℕ) (before after : Derived) : Type 0 where
  pub answer : Derives
  pub is_derived : IsDerived p kinds t answer
  pub layouts : after.layouts ≡ before.layouts ++ layouts_in (answer ∷ [])
  pub refused : after.refused ≡ option_or before.refused (first_refusal (answer ∷ []))

-- d has the layouts that are derived for these types, in their order, and the first refusal
pub record IsAllDerived (p : Program) (kinds : List (Option Auto)) (ts : List ℕ) (d : Derived) : Type 0 where
  pub answers : List Derives
  pub are_derived : AreDerived p kinds ts answers
  pub layouts : d.layouts ≡ layouts_in answers
  pub refused : d.refused ≡ first_refusal answers

-- c has the program p with the derived layouts behind its own, and the refusal of d
pub record IsWith (p : Program) (d : Derived) (c : Completed) : Type 0 where
  pub program : c.program ≡ completed_program p d.layouts
  pub refused : c.refused ≡ d.refused
