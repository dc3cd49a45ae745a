-- A program completed by the layouts that its file leaves to the compiler, which derives each by its kind, boxed or
-- packed. An item `layout T = boxed` or `layout T = packed` leaves that of type T so. The answer for a type is its
-- layout or a refusal: why it gets none.
use Rattle.std.specs.Prelude.{◌≡◌, ℕ, List, [], ◌∷◌, map, Option, Some, None, Ok, Err}
use Rattle.rb_core.specs.declared.types.Auto.{Auto}
use Rattle.rb_core.specs.declared.program.Program.{Program}
use Rattle.rb_core.specs.declared.layout_decl.LayoutDecl.{LayoutDecl}
use Rattle.rb_syntax.specs.declared.tree.ItemTree.{ItemTree}
use Rattle.rb_syntax.specs.declared.tree.ItemTree.TheVariants as top
use Rattle.rb_syntax.specs.declared.tree.FileTree.{FileTree}
use Rattle.rb_auto.specs.declared.fault.AutoFault.{AutoFault}
use Rattle.rb_auto.specs.declared.fault.AutoFault.TheVariants.{Memory}
use Rattle.rb_auto.specs.Answers.{Derives, IsDerivedAnswer}
use Rattle.rb_auto.specs.Completed.{Completes, completed_program}
use Rattle.rb_names.specs.declared.complete.Completed.{Completed}
use Rattle.rb_names.specs.Tables.{Table, meaning}
use Rattle.rb_names.specs.Definitions.{tables_of, type_names}

-- the types whose layouts are left to the compiler, each with the kind that is asked for, in the file's order
abbrev pub left_in : List ItemTree → Table Auto
left_in [] = []
left_in (top.Types t ∷ items) = left_in items
left_in (top.Layouts l ∷ items) = left_in items
left_in (top.Funs f ∷ items) = left_in items
left_in (top.Derived ty kind ∷ items) = (ty.text, kind) ∷ left_in items

-- for each type of the file, in the order of their numbers, the kind of layout that is to be derived for it, if any
abbrev pub kinds_of : FileTree → List (Option Auto)
kinds_of file = map (meaning (left_in file.items)) (type_names file.items)

-- a type's number in front of others, if there is one: a name that no type has gives none
abbrev pub with_number : Option ℕ → List ℕ → List ℕ
with_number None ts = ts
with_number (Some t) ts = t ∷ ts

-- the numbers of the types that a table names, in its order; a name that no type has is left out
abbrev pub type_numbers : Table ℕ → Table Auto → List ℕ
type_numbers types [] = []
type_numbers types (l ∷ ls) = with_number (meaning types l.0) (type_numbers types ls)

-- the numbers of the types whose layouts a file leaves to the compiler, in the file's order
abbrev pub left_types : FileTree → List ℕ
left_types file = type_numbers (tables_of file.items).types (left_in file.items)

-- r, a layout or a refusal, is what is derived for type t of program p, where kinds has the kind for each type; want
-- of memory is no answer here
abbrev pub IsDerived : Program → List (Option Auto) → ℕ → Derives → Type 0
IsDerived p kinds t (Err Memory) = ⊥
IsDerived p kinds t r = IsDerivedAnswer p kinds t r

-- the answers are, one for each of these types and in their order, what is derived for them
abbrev pub AreDerived : Program → List (Option Auto) → List ℕ → List Derives → Type 0
AreDerived p kinds [] [] = Unit {0}
AreDerived p kinds [] (r ∷ rs) = ⊥
AreDerived p kinds (t ∷ ts) [] = ⊥
AreDerived p kinds (t ∷ ts) (r ∷ rs) = IsDerived p kinds t r × AreDerived p kinds ts rs

-- the layouts among these answers, in their order; a type that is refused gets no layout
abbrev pub layouts_in : List Derives → List LayoutDecl
layouts_in [] = []
layouts_in (Ok d ∷ rs) = d ∷ layouts_in rs
layouts_in (Err e ∷ rs) = layouts_in rs

-- the first refusal among these answers; none where a layout is derived for each type
abbrev pub first_refusal : List Derives → Option AutoFault
first_refusal [] = None
first_refusal (Ok d ∷ rs) = first_refusal rs
first_refusal (Err e ∷ rs) = Some e

-- c is program p with the layouts that its file leaves to the compiler. They are derived by the written ones alone
-- and stand after them, in the file's order; a type that is refused gets none, and the first refusal is kept.
pub record IsCompleted (file : FileTree) (p : Program) (c : Completed) : Type 0 where
  pub answers : List Derives
  pub are_derived : AreDerived p (kinds_of file) (left_types file) answers
  pub program : c.program ≡ completed_program p (layouts_in answers)
  pub refused : c.refused ≡ first_refusal answers

-- c is program p with a derived layout for each type whose layout the file leaves to the compiler, none of which has
-- a written one
pub record IsCompletion (file : FileTree) (p : Program) (c : Completed) : Type 0 where
  pub derived : List LayoutDecl
  pub completes : Completes p (kinds_of file) derived
  pub program : c.program ≡ completed_program p derived
