-- What a call of the checker answers: what the definition of typing gives, or want of memory.
use Rattle.std.specs.Prelude.{◌≡◌, ℕ, List, ◌++◌, map, Option, Some, None, Ok, Err}
use Rattle.rb_core.specs.declared.types.Ty.{Ty}
use Rattle.rb_core.specs.declared.types.DataDecl.{DataDecl}
use Rattle.rb_core.specs.declared.layout_decl.Arm.{Arm}
use Rattle.rb_core.specs.declared.typing.Binder.{Binder}
use Rattle.rb_core.specs.declared.typing.TypeFault.{TypeFault}
use Rattle.rb_core.specs.declared.typing.TypeFault.TheVariants.{Empty, Memory}
use Rattle.rb_core.specs.Layouts.{arm_provenances}
use Rattle.rb_core.specs.TypedPrograms.{first_fault, provenance_fault}
use Rattle.rb_core.specs.Typing.{Typing, and_then}
use Rattle.rb_check.specs.declared.expression.Wanted.{Wanted}
use Rattle.rb_check.specs.declared.expression.Wanted.TheVariants.{Params, Fields}

-- the answer is what typing gives, a type or a fault; want of memory says nothing of it, and no expression or
-- pattern is refused for an empty type
abbrev pub AnswersTyping : {A : Type 0} → Typing A → Typing A → Type 0
AnswersTyping (Ok a) gives = gives ≡ Ok a
AnswersTyping (Err Memory) gives = Unit {0}
AnswersTyping (Err (Empty t)) gives = ⊥
AnswersTyping (Err fault) gives = gives ≡ Err fault

-- what a call that is done left behind is what typing gives, and its fault is the fault there, which is none for an
-- empty type; want of memory says nothing
abbrev pub LeavesTyping : {A : Type 0} → Typing (Unit {0}) → A → Typing A → Type 0
LeavesTyping (Ok done) left gives = gives ≡ Ok left
LeavesTyping (Err Memory) left gives = Unit {0}
LeavesTyping (Err (Empty t)) left gives = ⊥
LeavesTyping (Err fault) left gives = gives ≡ Err fault

-- the answer is this fault, which is none for an empty type, or done where there is none; want of memory says
-- nothing of it
abbrev pub AnswersFault : Typing (Unit {0}) → Option TypeFault → Type 0
AnswersFault (Ok done) fault = fault ≡ None
AnswersFault (Err Memory) fault = Unit {0}
AnswersFault (Err (Empty t)) fault = ⊥
AnswersFault (Err found) fault = fault ≡ Some found

-- the first fault in the provenances under an arm of a split
abbrev pub arm_fault : List DataDecl → ℕ → Arm → Option TypeFault
arm_fault types ty arm = first_fault (map (provenance_fault types ty) (arm_provenances arm))

-- the scope of a clause's body: the binders of the match's scope and behind them those that typing gives of the
-- clause's pattern, or the fault that it gives instead
abbrev pub within : List Binder → Typing (List Binder) → Typing (List Binder)
within scope pattern = and_then pattern (λ more. Ok (scope ++ more))

-- the types that are wanted of arguments, in order: those of parameters, or of fields
abbrev pub wanted_types : Wanted → List Ty
wanted_types (Params ps) = map (λ p. p.ty) ps.now
wanted_types (Fields ts) = ts.now
