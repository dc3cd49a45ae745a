-- Typed programs: the program is well numbered, each type has a value, each provenance is typed, and so is
-- each function, whose parameters are distinct and whose body is typed. The first fault is that of a type
-- without a value, then the first in the file's order: through the layouts' provenances, then through the
-- functions. A type is named here by the number of its declaration, and `types` and `funs` are the data types
-- and the functions of the program.
use Rattle.std.specs.Prelude.{◌≡◌, ℕ, ◌<◌, List, [], ◌∷◌, ◌++◌, map, length, true, false, Option, Some, None}
use Rattle.std.specs.Result.{result_err}
use Rattle.rb_core.specs.declared.value.Value.{Value}
use Rattle.rb_core.specs.declared.types.Ty.TheVariants.{Named}
use Rattle.rb_core.specs.declared.types.DataDecl.{DataDecl}
use Rattle.rb_core.specs.declared.pattern.Pat.{Pat}
use Rattle.rb_core.specs.declared.layout_decl.LayoutDecl.{LayoutDecl}
use Rattle.rb_core.specs.declared.program.Fun.{Fun}
use Rattle.rb_core.specs.declared.program.Program.{Program}
use Rattle.rb_core.specs.declared.typing.TypeFault.{TypeFault}
use Rattle.rb_core.specs.declared.typing.TypeFault.TheVariants.{Empty, Memory}
use Rattle.rb_core.specs.Values.{is_of_type}
use Rattle.rb_core.specs.Layouts.{provenances}
use Rattle.rb_core.specs.Typing.{and_then, pattern_binders, distinct_binders, type_of}
use Rattle.rb_core.specs.WellNumbered.{IsWellNumbered}

-- the data type with number t has a value
abbrev pub HasValue : List DataDecl → ℕ → Type 0
HasValue types t = (v : Value) × (is_of_type types v (Named t) ≡ true)

-- no value is of the data type with number t; none is of a type that is not declared either
abbrev pub IsEmpty : List DataDecl → ℕ → Type 0
IsEmpty types t = (v : Value) → is_of_type types v (Named t) ≡ false

-- each data type of the program has a value
abbrev pub HaveValues : List DataDecl → Type 0
HaveValues types = (t : ℕ) → t < length types → HasValue types t

-- the data type with number t is the first without a value
pub record IsFirstEmpty (types : List DataDecl) (t : ℕ) : Type 0 where
  pub declared : t < length types
  pub empty : IsEmpty types t
  pub before : (s : ℕ) → s < t → HasValue types s

-- the first fault in a list of which each entry is a fault or none; none where no entry is a fault
abbrev pub first_fault : List (Option TypeFault) → Option TypeFault
first_fault [] = None
first_fault (None ∷ faults) = first_fault faults
first_fault (Some fault ∷ faults) = Some fault

-- the fault of a provenance p of a layout for the data type with number t, as a pattern at that type; none
-- where it is typed
abbrev pub provenance_fault : List DataDecl → ℕ → Pat → Option TypeFault
provenance_fault types t p = result_err (pattern_binders types p (Named t))

-- the first fault in the provenances of a layout's leaves, from left to right; none where all are typed
abbrev pub layout_fault : List DataDecl → LayoutDecl → Option TypeFault
layout_fault types l = first_fault (map (provenance_fault types l.ty) (provenances l.tree))

-- the fault of a function f: that a variable stands twice among its parameters, or else the first in its
-- body, of which its result type is wanted within its parameters; none where it is typed
abbrev pub function_fault : List DataDecl → List Fun → Fun → Option TypeFault
function_fault types funs f =
    result_err (and_then (distinct_binders f.params) (type_of types funs f.body (Some f.result)))

-- the first fault in the provenances of all layouts and then in the functions, each in the file's order; none
-- where all are typed
abbrev pub rule_fault : Program → Option TypeFault
rule_fault p = first_fault (map (layout_fault p.types) p.layouts ++ map (function_fault p.types p.funs) p.funs)

-- a program is refused by this fault, which is its first: the first type without a value, or, where each type
-- has one, the first in the layouts and the functions; want of memory says nothing of the program
abbrev pub IsFirstFault : Program → TypeFault → Type 0
IsFirstFault p (Empty t) = IsFirstEmpty p.types t
IsFirstFault p Memory = Unit {0}
IsFirstFault p fault = HaveValues p.types × (rule_fault p ≡ Some fault)

-- a program is typed: it is well numbered, each of its data types has a value, and no rule of typing finds a
-- fault in it
pub record IsTyped (p : Program) : Type 0 where
  pub numbered : IsWellNumbered p
  pub values : HaveValues p.types
  pub rules : rule_fault p ≡ None
