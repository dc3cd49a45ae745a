-- What typing promises of a run: where it is done, its value is of the type that typing gives, and
-- each value that it builds is of the type that is noted with it.
use Rattle.std.specs.Prelude.{◌≡◌, ℕ, List, [], ◌∷◌, map, true, Option, Ok}
use Rattle.std.specs.List.{All}
use Rattle.rb_core.specs.declared.value.Value.{Value}
use Rattle.rb_core.specs.declared.types.Ty.{Ty}
use Rattle.rb_core.specs.declared.types.Ty.TheVariants.{Named}
use Rattle.rb_core.specs.declared.types.DataDecl.{DataDecl}
use Rattle.rb_core.specs.declared.typing.Binder.{Binder}
use Rattle.rb_core.specs.declared.binding.Binding.{Binding}
use Rattle.rb_core.specs.declared.outcome.Event.{Event}
use Rattle.rb_core.specs.declared.outcome.Event.TheVariants.{Built, Matched}
use Rattle.rb_core.specs.declared.outcome.SourceEnd.{SourceEnd}
use Rattle.rb_core.specs.declared.outcome.SourceEnd.TheVariants.{Done, Spent}
use Rattle.rb_core.specs.declared.outcome.Outcome.{Outcome}
use Rattle.rb_core.specs.declared.program.Program.{Program}
use Rattle.rb_core.specs.declared.expression.Expr.{Expr}
use Rattle.rb_core.specs.Values.{is_of_type, all_of_types}
use Rattle.rb_core.specs.Typing.{param_types, result_type, type_of}
use Rattle.rb_core.specs.TypedPrograms.{IsTyped}
use Rattle.rb_core.specs.WellNumbered.{expression_is_numbered}
use Rattle.rb_core.specs.Coverage.{AreExhaustive, sites, sites_of}
use Rattle.rb_core.specs.Meaning.{call_of, meaning_of}
use Rattle.rb_sound.specs.Words.{has_words, HasWords}

-- there are as many values as types, and each value is of the type at its place
abbrev pub AreOfTypes : List DataDecl → List Value → List Ty → Type 0
AreOfTypes types vs ts = all_of_types (map (is_of_type types) vs) ts ≡ true

-- an environment has a scope's variables in its order, each with a value of its type
abbrev pub AreInScope : List DataDecl → List Binder → List Binding → Type 0
AreInScope types [] [] = Unit {0}
AreInScope types [] (v ∷ vs) = ⊥
AreInScope types (b ∷ bs) [] = ⊥
AreInScope types (b ∷ bs) (v ∷ vs) =
    (b.var ≡ v.var) × (is_of_type types v.value b.ty ≡ true) × AreInScope types bs vs

-- Runs ----------------------------------------------------------------------------------------

-- an end whose value, if there is one, is of a type
abbrev pub EndIsOfType : List DataDecl → Ty → SourceEnd → Type 0
EndIsOfType types t (Done v left) = is_of_type types v t ≡ true
EndIsOfType types t Spent = Unit {0}

-- a construction's value is of the construction's type
abbrev pub IsBuiltTyped : List DataDecl → Event → Type 0
IsBuiltTyped types (Built t v) = is_of_type types v (Named t) ≡ true
IsBuiltTyped types (Matched f at) = Unit {0}

-- a run ends with a value of a type, if it is done, and whatever it builds is of its own type
pub record RunsAs (types : List DataDecl) (t : Ty) (o : Outcome) : Type 0 where
  pub ends : EndIsOfType types t o.end
  pub builds : All (IsBuiltTyped types) o.log

-- Programs ------------------------------------------------------------------------------------

-- a call with arguments of the parameters' types runs as the result type says
abbrev pub CallsRunTyped : Program → Type 0
CallsRunTyped p = (g n : ℕ) (vs : List Value) → AreOfTypes p.types vs (param_types p.funs g)
    → RunsAs p.types (result_type p.funs g) (call_of p g n vs)

-- An expression in a scope of a program, at a wanted type or none: each of its names is one of the
-- program's or of the scope's, it has a type, its matches are exhaustive, its numbers have 64 bits.
pub record HasType (p : Program) (e : Expr) (wanted : Option Ty) (scope : List Binder) (t : Ty) : Type 0 where
  pub numbered : expression_is_numbered p.types p.funs e (map (λ b. b.var) scope) ≡ true
  pub typed : type_of p.types p.funs e wanted scope ≡ Ok t
  pub exhaustive : AreExhaustive p.types (sites p.types p.funs e scope)
  pub words : has_words e ≡ true

-- an expression that has a type in a scope, with values of the scope's types for its variables, runs as its type says
abbrev pub ExpressionsRunTyped : Program → Type 0
ExpressionsRunTyped p =
    (f left : ℕ) (e : Expr) (wanted : Option Ty) (scope : List Binder) (env : List Binding) (t : Ty)
    → HasType p e wanted scope t → AreInScope p.types scope env
    → RunsAs p.types t (meaning_of p (call_of p) f e wanted scope left env)

-- a promise is kept by every program that is typed, whose matches are exhaustive and whose
-- numbers have at most 64 bits
abbrev pub OfTypedPrograms : (Program → Type 0) → Type 0
OfTypedPrograms Promise =
    (p : Program) → IsTyped p → AreExhaustive p.types (sites_of p) → HasWords p → Promise p
