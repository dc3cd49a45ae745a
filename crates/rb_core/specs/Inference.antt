-- The type of a typed expression, read off its form: what typing answers where it finds no fault. As in
-- bidirectional typing, a wanted type or none comes in, and a type goes out. A scope is a list of binders,
-- variables with their types, from the outermost to the innermost. The arguments `types` and `funs` are the
-- data types and the functions of the program. Total by defaults that typed programs never meet; of an
-- expression that is not typed, what is read off says nothing.
use Rattle.std.specs.Prelude.{ℕ, List, [], ◌∷◌, ◌++◌, min, Option, None, unwrap_or}
use Rattle.rb_core.specs.declared.types.Ty.{Ty}
use Rattle.rb_core.specs.declared.types.Ty.TheVariants.{Int, Named}
use Rattle.rb_core.specs.declared.types.DataDecl.{DataDecl}
use Rattle.rb_core.specs.declared.typing.Binder.{Binder}
use Rattle.rb_core.specs.declared.pattern.Pat.{Pat}
use Rattle.rb_core.specs.declared.pattern.Pat.TheOpen as P
use Rattle.rb_core.specs.declared.pattern.Pat.TheOpen.{Pat-F}
use Rattle.rb_core.specs.declared.pattern.Pat.TheFolds.{fold-Pat}
use Rattle.rb_core.specs.declared.expression.Op.{Op}
use Rattle.rb_core.specs.declared.expression.Expr.{Expr}
use Rattle.rb_core.specs.declared.expression.Expr.TheOpen as E
use Rattle.rb_core.specs.declared.expression.Expr.TheOpen.{Expr-F}
use Rattle.rb_core.specs.declared.expression.Expr.TheFolds.{fold-Expr, fold-Clause}
use Rattle.rb_core.specs.declared.expression.Clause.{Clause, Clause-F}
use Rattle.rb_core.specs.declared.program.Fun.{Fun}
use Rattle.rb_core.specs.Typing.{variable_type, field_types, result_type, operand_wanted, operator_type}

-- the bits of an integer type, or 64 where it has more; 64 for a data type, at which no operator is typed
abbrev pub width_of : Ty → ℕ
width_of (Int bits) = min bits 64
width_of (Named t) = 64

-- the scope with one more binder, the innermost: variable x with type t
abbrev pub with_binder : List Binder → ℕ → Ty → List Binder
with_binder scope x t = scope ++ record { var = x; ty = t } ∷ []

-- what patterns bind, each at the type in its place, from left to right, up to where the patterns or the
-- types end; a pattern is given as what it binds at a type
abbrev pub all_binders : List (Ty → List Binder) → List Ty → List Binder
all_binders [] ts = []
all_binders (b ∷ bs) [] = []
all_binders (b ∷ bs) (t ∷ ts) = b t ++ all_binders bs ts

-- what one layer of a pattern binds at type t, from what its subpatterns bind: those of a constructor stand
-- at the types of its fields, whatever t is, and bind nothing where the program has no such constructor; a
-- wildcard and a number bind nothing
abbrev pub binders_step : List DataDecl → Pat-F (Ty → List Binder) → Ty → List Binder
binders_step types (P.Wild at) t = []
binders_step types (P.Var at x) t = record { var = x; ty = t } ∷ []
binders_step types (P.Num at n) t = []
binders_step types (P.Con at c bs) t = all_binders bs (field_types types c)

-- the variables that a pattern binds at a type, with their types, from left to right
abbrev pub binders : List DataDecl → Pat → Ty → List Binder
binders types = fold-Pat (Ty → List Binder) (binders_step types)

-- what is read off an expression: its type, given the type that is wanted of it or none, and its scope
abbrev pub Inference : Type 0
Inference = Option Ty → List Binder → Ty

-- the type of both operands of an operator, where `wanted` is the type that is wanted of its result or none,
-- and `first` that of its first operand: `first` for `eq` and `lt`, and for the other operators the wanted
-- type if it is an integer type, else `first`
abbrev pub operands_type : Op → Option Ty → Ty → Ty
operands_type op wanted first = unwrap_or (operand_wanted op wanted) first

-- the type of the body of a match's first clause, with none wanted, in the scope with what the clause's
-- pattern binds at the scrutinee's type t behind it; u64 where there is no clause
abbrev pub first_clause_type : List DataDecl → List (Pat × Inference) → Ty → List Binder → Ty
first_clause_type types [] t scope = Int 64
first_clause_type types (c ∷ cs) t scope = c.1 None (scope ++ binders types c.0 t)

-- the type of a match with these clauses and a scrutinee of type t: the wanted type, or where none is wanted
-- the type of its first clause
abbrev pub match_type : List DataDecl → Option Ty → List (Pat × Inference) → Ty → List Binder → Ty
match_type types wanted cs t scope = unwrap_or wanted (first_clause_type types cs t scope)

-- the type of one layer of an expression, from those of its parts: a number has the wanted type, or u64 where
-- none is wanted; a `let` has the type of its body, within one more binder; a match has the wanted type, or
-- where none is wanted that of its first clause; an operator has the type of its operands, or one bit for `eq`
-- and `lt`. A variable, a call, a construction and a conversion have their own type, whatever is wanted
abbrev pub inference_step : List DataDecl → List Fun → Expr-F Inference (Pat × Inference) → Inference
inference_step types funs (E.Num at n) wanted scope = unwrap_or wanted (Int 64)
inference_step types funs (E.Var at x) wanted scope = variable_type x scope
inference_step types funs (E.Call at g es) wanted scope = result_type funs g
inference_step types funs (E.Build at c es) wanted scope = Named c.ty
inference_step types funs (E.Binary at op a b) wanted scope =
    operator_type op (operands_type op wanted (a None scope))
inference_step types funs (E.To at bits a) wanted scope = Int bits
inference_step types funs (E.Let at x t a b) wanted scope = b wanted (with_binder scope x t)
inference_step types funs (E.Match at e cs) wanted scope = match_type types wanted cs (e None scope) scope

-- one layer of a clause: its pattern, with what is read off its body
abbrev pub clause_inference : Clause-F Inference (Pat × Inference) → Pat × Inference
clause_inference c = (c.pat, c.body)

-- the type of an expression, at a wanted type or none and in a scope
abbrev pub inferred_type : List DataDecl → List Fun → Expr → Inference
inferred_type types funs = fold-Expr Inference (Pat × Inference) (inference_step types funs) clause_inference

-- a clause's pattern, with the type of its body, at a wanted type or none and in a scope which has what the
-- pattern binds
abbrev pub clause_inferred : List DataDecl → List Fun → Clause → Pat × Inference
clause_inferred types funs = fold-Clause Inference (Pat × Inference) (inference_step types funs) clause_inference
