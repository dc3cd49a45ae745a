-- The source meaning: what a program does, without any layout and any memory.
--
-- Strict, from left to right, the first clause that matches. Each call takes one of the calls left, and a
-- call with none left ends the whole. Constructions and matches are events of a log. The operators work at
-- their operands' width, so the meaning carries the type that is wanted and the scope, as typing does. Total
-- by defaults that typed programs never meet.
--
-- A scope is a list of binders, variables with their types; an environment is a list of bindings, variables
-- with their values; both run from the outermost to the innermost. An outcome is a log and an end: done, with
-- a value and the calls left, or spent. Where several parts are done one after the other, they are the
-- arguments of a call or the fields of a construction.
use Rattle.std.specs.Prelude.{ℕ, zero, suc, ◌+◌, ◌-◌, ◌*◌, ◌%◌, ◌^◌, List, [], ◌∷◌, ◌++◌, map, ◌==◌, nat_lt, if◌then◌else◌, Option, Some, None, slice_get, bit_and, bit_or, bit_xor}
use Rattle.rb_core.specs.declared.value.Value.{Value, Num, Con}
use Rattle.rb_core.specs.declared.value.Value.TheOpen as V
use Rattle.rb_core.specs.declared.value.Value as Values
use Rattle.rb_core.specs.declared.types.Ty.{Ty}
use Rattle.rb_core.specs.declared.types.ConRef.{ConRef}
use Rattle.rb_core.specs.declared.types.DataDecl.{DataDecl}
use Rattle.rb_core.specs.declared.typing.Binder.{Binder}
use Rattle.rb_core.specs.declared.binding.Binding.{Binding}
use Rattle.rb_core.specs.declared.outcome.Event.{Event}
use Rattle.rb_core.specs.declared.outcome.Event.TheVariants.{Built, Matched}
use Rattle.rb_core.specs.declared.outcome.SourceEnd.{SourceEnd}
use Rattle.rb_core.specs.declared.outcome.SourceEnd.TheVariants.{Done, Spent}
use Rattle.rb_core.specs.declared.outcome.PartsEnd.{PartsEnd}
use Rattle.rb_core.specs.declared.outcome.PartsEnd.TheVariants.{AllDone, Cut}
use Rattle.rb_core.specs.declared.outcome.Outcome.{Outcome}
use Rattle.rb_core.specs.declared.pattern.Pat.{Pat}
use Rattle.rb_core.specs.declared.program.Param.{Param}
use Rattle.rb_core.specs.declared.program.Fun.{Fun}
use Rattle.rb_core.specs.declared.program.Program.{Program}
use Rattle.rb_core.specs.declared.expression.Op.{Op}
use Rattle.rb_core.specs.declared.expression.Expr.{Expr}
use Rattle.rb_core.specs.declared.expression.Expr.TheOpen as E
use Rattle.rb_core.specs.declared.expression.Expr.TheOpen.{Expr-F}
use Rattle.rb_core.specs.declared.expression.Expr.TheFolds.{para-Expr, para-Clause}
use Rattle.rb_core.specs.declared.expression.Clause.{Clause, Clause-F}
use Rattle.rb_core.specs.Matching.{matches_of, bindings}
use Rattle.rb_core.specs.Typing.{binder_of, field_types, param_types, operand_wanted}
use Rattle.rb_core.specs.Inference.{Inference, width_of, with_binder, binders, operands_type, match_type, inferred_type, clause_inferred}

-- Numbers

-- the number that one layer of a value is; 0 for a construction
abbrev pub number_in_value : V.Value-F Value → ℕ
number_in_value (V.Num n) = n
number_in_value (V.Con k vs) = 0

-- the number that a value is; 0 for a construction, which typed programs never have where a number is due
abbrev pub number_of : Value → ℕ
number_of v = number_in_value (Values.out-Value v)

-- what an operator gives at operands a and b of `width` bits: `add`, `sub`, `mul`, `and`, `or` and `xor` give
-- their result modulo two to the width, a difference below 0 too; `eq` gives 1 where a and b are equal, `lt` 1
-- where a is less, and both else 0
abbrev pub op_value : Op → ℕ → ℕ → ℕ → ℕ
op_value Op.Add width a b = (a + b) % 2 ^ width
op_value Op.Sub width a b = (a + (2 ^ width - b % 2 ^ width)) % 2 ^ width
op_value Op.Mul width a b = (a * b) % 2 ^ width
op_value Op.And width a b = bit_and a b % 2 ^ width
op_value Op.Or width a b = bit_or a b % 2 ^ width
op_value Op.Xor width a b = bit_xor a b % 2 ^ width
op_value Op.Eq width a b = if a == b then 1 else 0
op_value Op.Lt width a b = if nat_lt a b then 1 else 0

-- Variables

-- the value of the last binding of variable x in an environment; d where there is none
abbrev pub value_or : Value → ℕ → List Binding → Value
value_or d x [] = d
value_or d x (b ∷ bs) = value_or (if b.var == x then b.value else d) x bs

-- the value of variable x in an environment, that of its innermost binding; 0 where there is none, which
-- typed programs never meet
abbrev pub value_in : List Binding → ℕ → Value
value_in env x = value_or (Num 0) x env

-- the environment with one more binding, the innermost: variable x with value v
abbrev pub with_value : List Binding → ℕ → Value → List Binding
with_value env x v = env ++ record { var = x; value = v } ∷ []

-- Outcomes

-- the outcome without events that ends with value v and so many calls left
abbrev pub value_outcome : Value → ℕ → Outcome
value_outcome v left = record { log = []; end = Done v left }

-- the outcome without events that ends where a call is due and none is left
abbrev pub spent_outcome : Outcome
spent_outcome = record { log = []; end = Spent }

-- the events of a log, and then the outcome o: its events behind them, and its end
abbrev pub after : List Event → Outcome → Outcome
after log o = record { log = log ++ o.log; end = o.end }

-- what follows an end: where it is done, what `go` does with the value and the calls left; else it is spent
abbrev pub at_end : SourceEnd → (Value → ℕ → Outcome) → Outcome
at_end (Done v left) go = go v left
at_end Spent go = spent_outcome

-- an outcome and what follows its end: where it is done, `go` with its value and the calls left, whose events
-- stand behind those of the outcome; where it is spent, so is the whole, with the outcome's events alone
unfoldable pub then_do : Outcome → (Value → ℕ → Outcome) → Outcome
then_do o go = after o.log (at_end o.end go)

-- what several parts do, from left to right: their events, and their values with the calls left, or that they
-- were cut where a call was due and none was left
pub record PartsOutcome : Type 0 where
  pub log : List Event
  pub end : PartsEnd

-- what follows the end of a part: where it is done, what `go` does with its value and the calls left; else
-- the parts are cut
abbrev pub at_part : SourceEnd → (Value → ℕ → PartsOutcome) → PartsOutcome
at_part (Done v left) go = go v left
at_part Spent go = record { log = []; end = Cut }

-- the events of a log, and then the outcome o of parts: its events behind them, and its end
abbrev pub parts_after : List Event → PartsOutcome → PartsOutcome
parts_after log o = record { log = log ++ o.log; end = o.end }

-- what follows the end of parts: where all are done, what `go` does with their values and the calls left;
-- where they are cut, the whole is spent
abbrev pub at_parts_end : PartsEnd → (List Value → ℕ → Outcome) → Outcome
at_parts_end (AllDone vs left) go = go vs left
at_parts_end Cut go = spent_outcome

-- the outcome of parts and what follows their end: where all are done, `go` with their values and the calls
-- left, whose events stand behind those of the parts; where they are cut, the whole is spent, with the parts'
-- events alone
unfoldable pub then_with : PartsOutcome → (List Value → ℕ → Outcome) → Outcome
then_with o go = after o.log (at_parts_end o.end go)

-- Expressions

-- what an expression does, given the type that is wanted of it or none, its scope, the calls left, and its
-- environment
abbrev pub Meaning : Type 0
Meaning = Option Ty → List Binder → ℕ → List Binding → Outcome

-- what a call does, given the function's number, the calls left, and the arguments
abbrev pub Calls : Type 0
Calls = ℕ → ℕ → List Value → Outcome

-- what is wanted of the first of several parts, by the list of wanted types: none where the list has ended
abbrev pub first_wanted : List Ty → Option Ty
first_wanted [] = None
first_wanted (t ∷ ts) = Some t

-- the types that are wanted of the parts behind the first; none where the list has ended
abbrev pub later_wanted : List Ty → List Ty
later_wanted [] = []
later_wanted (t ∷ ts) = ts

-- what parts do, from left to right, each at the type in its place in ts, or at none behind them; `left`
-- calls are left before them, and vs are the values of the parts before them. A part that is spent cuts them,
-- and the parts behind it do nothing; where no part is left, all are done with the values vs
abbrev pub all_of : List Meaning → List Ty → List Binder → List Value → ℕ → List Binding → PartsOutcome
all_of [] ts scope vs left env = record { log = []; end = AllDone vs left }
all_of (m ∷ ms) ts scope vs left env =
    let o = m (first_wanted ts) scope left env in
    parts_after o.log (at_part o.end (λ v rest. all_of ms (later_wanted ts) scope (vs ++ v ∷ []) rest env))

-- what the first clause that matches the value v of type t does, with the variables of its pattern bound;
-- `wanted` is wanted of the first of these clauses and `others` of each other one. Where no clause matches,
-- which does not occur in a covered program, it is done with 0
abbrev pub first_of : List DataDecl → Ty → List (Pat × Meaning) → Option Ty → Option Ty → List Binder → Value → ℕ
    → List Binding → Outcome
first_of types t [] wanted others scope v left env = value_outcome (Num 0) left
first_of types t (c ∷ cs) wanted others scope v left env =
    if matches_of c.0 v then c.1 wanted (scope ++ binders types c.0 t) left (env ++ bindings c.0 v)
    else first_of types t cs others others scope v left env

-- what a construction does with the values vs of its fields: the event that it is built, with its type's
-- number and its value, and then it is done with that value
abbrev pub construction_outcome : ConRef → List Value → ℕ → Outcome
construction_outcome c vs left = after (Built c.ty (Con c.con vs) ∷ []) (value_outcome (Con c.con vs) left)

-- what an operator does with the values v and w of its operands, of `width` bits: it is done with what it gives
-- at their numbers, and has no event
abbrev pub operation_outcome : Op → ℕ → Value → Value → ℕ → Outcome
operation_outcome op width v w left = value_outcome (Num (op_value op width (number_of v) (number_of w))) left

-- what a conversion to so many bits does with the value v of its operand: it is done with the number that the
-- low bits of v hold, and has no event
abbrev pub cut_to : ℕ → Value → ℕ → Outcome
cut_to bits v left = value_outcome (Num (number_of v % 2 ^ bits)) left

-- a part of an expression, with what it does
abbrev pub Part : Type 0
Part = Expr × Meaning

-- a clause, with its pattern and what its body does
abbrev pub Branch : Type 0
Branch = Clause × (Pat × Meaning)

-- what a part does
abbrev pub part_meaning : Part → Meaning
part_meaning part = part.1

-- a clause's pattern, and what its body does
abbrev pub branch_meaning : Branch → Pat × Meaning
branch_meaning branch = branch.1

-- a clause's pattern, and the type that is read off its body
abbrev pub branch_inferred : Program → Branch → Pat × Inference
branch_inferred p branch = clause_inferred p.types p.funs branch.0

-- what one layer of an expression of function f does in the program p, from what its parts do; a call does as
-- `calls` has it, behind its arguments. The event of a construction stands behind those of its fields, and the
-- event of a match, with f and the match's token, between those of its scrutinee and those of the clause
abbrev pub meaning_step : Program → Calls → ℕ → Expr-F Part Branch → Meaning
meaning_step p calls f (E.Num at n) wanted scope left env = value_outcome (Num n) left
meaning_step p calls f (E.Var at x) wanted scope left env = value_outcome (value_in env x) left
meaning_step p calls f (E.Call at g es) wanted scope left env =
    then_with (all_of (map part_meaning es) (param_types p.funs g) scope [] left env) (λ vs rest. calls g rest vs)
meaning_step p calls f (E.Build at c es) wanted scope left env =
    then_with (all_of (map part_meaning es) (field_types p.types c) scope [] left env) (construction_outcome c)
meaning_step p calls f (E.Binary at op a b) wanted scope left env =
    let t = operands_type op wanted (inferred_type p.types p.funs a.0 None scope) in
    then_do (a.1 (operand_wanted op wanted) scope left env)
    (λ v rest. then_do (b.1 (Some t) scope rest env) (operation_outcome op (width_of t) v))
meaning_step p calls f (E.To at bits a) wanted scope left env = then_do (a.1 None scope left env) (cut_to bits)
meaning_step p calls f (E.Let at x ty a b) wanted scope left env =
    then_do (a.1 (Some ty) scope left env) (λ v rest. b.1 wanted (with_binder scope x ty) rest (with_value env x v))
meaning_step p calls f (E.Match at e cs) wanted scope left env =
    let t = inferred_type p.types p.funs e.0 None scope in
    let others = Some (match_type p.types wanted (map (branch_inferred p) cs) t scope) in
    then_do (e.1 None scope left env) (λ v rest. after (Matched f at ∷ [])
    (first_of p.types t (map branch_meaning cs) wanted others scope v rest env))

-- one layer of a clause: its pattern, and what its body does
abbrev pub branch_step : Clause-F Part Branch → Pat × Meaning
branch_step c = (c.pat, c.body.1)

-- what an expression of function f does, where a call does as `calls` has it
abbrev pub meaning_of : Program → Calls → ℕ → Expr → Meaning
meaning_of p calls f = para-Expr Meaning (Pat × Meaning) (meaning_step p calls f) branch_step

-- a clause of function f: its pattern, and what its body does, where a call does as `calls` has it
abbrev pub clause_meaning : Program → Calls → ℕ → Clause → Pat × Meaning
clause_meaning p calls f = para-Clause Meaning (Pat × Meaning) (meaning_step p calls f) branch_step

-- Calls

-- the bindings of parameters to arguments, each to the one in its place, up to where either list ends
abbrev pub argument_bindings : List Param → List Value → List Binding
argument_bindings [] vs = []
argument_bindings (p ∷ ps) [] = []
argument_bindings (p ∷ ps) (v ∷ vs) = record { var = p.var; value = v } ∷ argument_bindings ps vs

-- what the body of function g does at its result type, with so many calls left and its parameters bound to
-- the arguments vs; where the program has no such function, it is done with 0
abbrev pub body_outcome : Program → Calls → Option Fun → ℕ → ℕ → List Value → Outcome
body_outcome p calls None g left vs = value_outcome (Num 0) left
body_outcome p calls (Some f) g left vs =
    meaning_of p calls g f.body (Some f.result) (map binder_of f.params) left (argument_bindings f.params vs)

-- what a call of function g does, with so many calls left, of which it takes one, and the arguments vs, where
-- calls nest at most k deep: it is spent where no call is left, or k is 0
abbrev pub call_within : Program → ℕ → Calls
call_within p k g zero vs = spent_outcome
call_within p zero g (suc left) vs = spent_outcome
call_within p (suc k) g (suc left) vs = body_outcome p (call_within p k) (slice_get p.funs g) g left vs

-- what a call of function g does, with n calls left and the arguments vs: calls nest no deeper than there are
-- calls, so n bounds both
abbrev pub call_of : Program → Calls
call_of p g n vs = call_within p n g n vs
