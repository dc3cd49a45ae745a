-- Evaluation held against the source meaning: its end is that of the meaning, and its events stand behind
-- those of the log before it. A context has the program, the type that is wanted or none, and the calls left;
-- a frame has the function that runs, by its number, and the variables in scope with their types and values.
-- An outcome is a log of events and an end: done, with a value and the calls left, or spent, where a call was due
-- and none was left. The outcome of parts ends with all their values, or is cut where one of them is spent.
use Rattle.std.specs.Prelude.{◌≡◌, ℕ, ◌≤◌, List, [], ◌++◌, Option, Some, None, map}
use Rattle.rb_core.specs.declared.types.Ty.{Ty}
use Rattle.rb_core.specs.declared.value.Value.{Value}
use Rattle.rb_core.specs.declared.expression.Expr.{Expr}
use Rattle.rb_core.specs.declared.expression.Clause.{Clause}
use Rattle.rb_core.specs.declared.outcome.Event.{Event}
use Rattle.rb_core.specs.declared.outcome.SourceEnd.{SourceEnd}
use Rattle.rb_core.specs.declared.outcome.SourceEnd.TheVariants.{Done, Spent}
use Rattle.rb_core.specs.declared.outcome.PartsEnd.{PartsEnd}
use Rattle.rb_core.specs.declared.outcome.PartsEnd.TheVariants.{AllDone, Cut}
use Rattle.rb_core.specs.declared.outcome.Outcome.{Outcome}
use Rattle.rb_core.specs.declared.environment.Frame.{Frame}
use Rattle.rb_core.specs.declared.program.Program.{Program}
use Rattle.rb_core.specs.declared.eval.Context.{Context}
use Rattle.rb_core.specs.declared.eval.Whole.{Whole}
use Rattle.rb_core.specs.declared.eval.Whole.TheVariants.{Call, Build}
use Rattle.rb_core.specs.Typing.{field_types, param_types}
use Rattle.rb_core.specs.Meaning.{PartsOutcome, number_of, then_with, all_of, first_of, construction_outcome, meaning_of, clause_meaning, call_of}

-- an end leaves no more than n calls; an end that is spent leaves none
abbrev pub IsWithinCalls : ℕ → SourceEnd → Type 0
IsWithinCalls n (Done v left) = left ≤ n
IsWithinCalls n Spent = Unit {0}

-- an end of parts leaves no more than n calls; where they are cut none is left
abbrev pub IsPartsWithinCalls : ℕ → PartsEnd → Type 0
IsPartsWithinCalls n (AllDone vs left) = left ≤ n
IsPartsWithinCalls n Cut = Unit {0}

-- a run with the outcome o has this end, and its events stand behind those of the log `old` in the log `new`
pub record GivesOutcome (o : Outcome) (old new : List Event) (end : SourceEnd) : Type 0 where
  pub same_end : end ≡ o.end
  pub same_log : new ≡ old ++ o.log

-- parts with the outcome o have this end, and their events stand behind those of the log `old` in the log
-- `new`
pub record GivesParts (o : PartsOutcome) (old new : List Event) (end : PartsEnd) : Type 0 where
  pub same_end : end ≡ o.end
  pub same_log : new ≡ old ++ o.log

-- an expression, evaluated in a context c with the variables of a frame f, has this end, and makes the log
-- `old` the log `new`, as its meaning has it
abbrev pub EvaluatesTo : Context → Frame → Expr → List Event → List Event → SourceEnd → Type 0
EvaluatesTo c f e old new =
    GivesOutcome (meaning_of c.program.now (call_of c.program.now) f.fun e c.wanted f.scope c.calls f.values) old new

-- the number that an end is done with, and the calls left; none where it is spent
abbrev pub done_number : SourceEnd → Option (ℕ × ℕ)
done_number (Done v left) = Some (number_of v, left)
done_number Spent = None

-- the types that are wanted of the parts of a whole, in their order: of the arguments of a call those of the
-- function's parameters, of the fields of a construction those that its type declares
abbrev pub part_types : Program → Whole → List Ty
part_types p (Call g) = param_types p.funs g
part_types p (Build c) = field_types p.types c

-- what the parts es of a whole do, in the program p with the variables of a frame f and so many calls left
abbrev pub parts_outcome : Program → Frame → Whole → List Expr → ℕ → PartsOutcome
parts_outcome p f w es calls =
    all_of (map (meaning_of p (call_of p) f.fun) es) (part_types p w) f.scope [] calls f.values

-- what a whole does with the values of its parts and the calls left
abbrev pub whole_outcome : Program → Whole → List Value → ℕ → Outcome
whole_outcome p (Call g) = λ vs left. call_of p g left vs
whole_outcome p (Build c) = construction_outcome c

-- a whole with the parts es, evaluated in a context c with the variables of a frame f, has this end, and makes
-- the log `old` the log `new`, as its meaning has it
abbrev pub EndsAsWhole : Context → Frame → Whole → List Expr → List Event → List Event → SourceEnd → Type 0
EndsAsWhole c f w es old new =
    GivesOutcome (then_with (parts_outcome c.program.now f w es c.calls) (whole_outcome c.program.now w)) old new

-- the first of the clauses cs that matches the value v of type t, evaluated in a context c with the variables
-- of a frame f, has this end, and makes the log `old` the log `new`, as its meaning has it; where no clause
-- matches, the end has the value 0. The context's type is wanted of the first clause, `others` of each other
abbrev pub EndsAsFirst :
    Context → Frame → Ty → List Clause → Option Ty → Value → List Event → List Event → SourceEnd → Type 0
EndsAsFirst c f t cs others v old new =
    GivesOutcome (first_of c.program.now.types t
    (map (clause_meaning c.program.now (call_of c.program.now) f.fun) cs)
    c.wanted others f.scope v c.calls f.values) old new
