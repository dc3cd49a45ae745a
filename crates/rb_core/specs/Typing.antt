-- Typing: the type of an expression, or the first fault. Each form has one equation. The parts of a form are
-- typed from left to right, and the first fault ends it. A fault names the place where it is found by `at`,
-- the number of a token. A scope is a list of binders, variables with their types, from the outermost to the
-- innermost. The arguments `types` and `funs` are the data types and the functions of the program. A rule is
-- what typing makes of an expression or a pattern; in one layer of it, the rules of its parts stand in their
-- places.
use Rattle.std.specs.Prelude.{ℕ, zero, suc, ◌^◌, List, [], ◌∷◌, ◌++◌, map, length, Bool, false, ◌==◌, nat_lt, if◌then◌else◌, Option, Some, None, Result, Ok, Err, slice_get, unwrap_or}
use Rattle.std.specs.List.{list_any}
use Rattle.rb_core.specs.declared.types.Ty.{Ty}
use Rattle.rb_core.specs.declared.types.Ty.TheVariants.{Int, Named}
use Rattle.rb_core.specs.declared.types.ConRef.{ConRef}
use Rattle.rb_core.specs.declared.types.DataDecl.{DataDecl}
use Rattle.rb_core.specs.declared.program.Param.{Param}
use Rattle.rb_core.specs.declared.program.Fun.{Fun}
use Rattle.rb_core.specs.declared.typing.Binder.{Binder}
use Rattle.rb_core.specs.declared.typing.TypeFault.{TypeFault}
use Rattle.rb_core.specs.declared.typing.TypeFault.TheVariants.{Mismatch, Arity, VariableTwice}
use Rattle.rb_core.specs.declared.pattern.Pat.{Pat}
use Rattle.rb_core.specs.declared.pattern.Pat.TheOpen as P
use Rattle.rb_core.specs.declared.pattern.Pat.TheOpen.{Pat-F}
use Rattle.rb_core.specs.declared.pattern.Pat.TheFolds.{fold-Pat}
use Rattle.rb_core.specs.declared.expression.Op.{Op}
use Rattle.rb_core.specs.declared.expression.Op.TheVariants.{Eq, Lt}
use Rattle.rb_core.specs.declared.expression.Expr.{Expr}
use Rattle.rb_core.specs.declared.expression.Expr.TheOpen as E
use Rattle.rb_core.specs.declared.expression.Expr.TheOpen.{Expr-F}
use Rattle.rb_core.specs.declared.expression.Expr.TheFolds.{fold-Expr, fold-Clause}
use Rattle.rb_core.specs.declared.expression.Clause.{Clause, Clause-F}
use Rattle.rb_core.specs.Values.{fields_of}

-- what typing gives, or the first fault
abbrev pub Typing : Type 0 → Type 0
Typing A = Result A TypeFault

-- goes on with what typing gave; a fault stays, and nothing goes on
abbrev pub and_then : {A B : Type 0} → Typing A → (A → Typing B) → Typing B
and_then (Ok a) go = go a
and_then (Err fault) go = Err fault

-- Types -------------------------------------------------------------------------------------

-- two types are equal: of as many bits both, or data types with one number both
abbrev pub same_type : Ty → Ty → Bool
same_type (Int n) (Int m) = n == m
same_type (Int n) (Named t) = false
same_type (Named t) (Int n) = false
same_type (Named t) (Named s) = t == s

-- the type that is found, if it is the wanted one or none is wanted; else that another is found at this token
abbrev pub as_wanted : ℕ → Option Ty → Ty → Typing Ty
as_wanted at None found = Ok found
as_wanted at (Some wanted) found = if same_type wanted found then Ok wanted else Err (Mismatch at wanted found)

-- whether a number is of a type: an integer type of n bits holds the numbers below 2^n, and a data type none
abbrev pub type_holds : Ty → ℕ → Bool
type_holds (Int bits) n = nat_lt n (2 ^ bits)
type_holds (Named t) n = false

-- the first of `more` widths, from `width` on, in which a number fits, or the width after them
unfoldable pub width_from : ℕ → ℕ → ℕ → ℕ
width_from zero width n = width
width_from (suc more) width n = if nat_lt n (2 ^ width) then width else width_from more (suc width) n

-- the least width from 1 to 64 that holds a number; 64 for a number that no such width holds
unfoldable pub least_width : ℕ → ℕ
least_width n = width_from 63 1 n

-- the least integer type that holds a number, or u64 for a number of more than 64 bits: the type that is found,
-- where a number is not of the wanted type
abbrev pub number_type : ℕ → Ty
number_type n = Int (least_width n)

-- an integer type, as it is; a data type is found at this token where an integer, by default u64, is wanted
abbrev pub integer : ℕ → Ty → Typing Ty
integer at (Int n) = Ok (Int n)
integer at (Named t) = Err (Mismatch at (Int 64) (Named t))

-- Variables ---------------------------------------------------------------------------------

-- the type of the innermost binder of variable x in a scope; `outer` where it has none
abbrev pub bound_type : Ty → ℕ → List Binder → Ty
bound_type outer x [] = outer
bound_type outer x (b ∷ bs) = bound_type (if b.var == x then b.ty else outer) x bs

-- the type of variable x in a scope; u64 where it has no binder, which a well numbered program never meets
abbrev pub variable_type : ℕ → List Binder → Ty
variable_type = bound_type (Int 64)

-- the binder of a parameter, or of a variable of a pattern: its number and its type, without its token
abbrev pub binder_of : Param → Binder
binder_of p = record { var = p.var; ty = p.ty }

-- the token of the first of these parameters whose variable stands before it, in `before` or among them; none
-- where no variable does
abbrev pub repeat_after : List Param → List Param → Option ℕ
repeat_after before [] = None
repeat_after before (p ∷ ps) =
    if list_any (λ q. q.var == p.var) before then Some p.at else repeat_after (before ++ p ∷ []) ps

-- the token of the first parameter of a list whose variable stands before it in the list; none where no
-- variable stands twice
abbrev pub first_repeat : List Param → Option ℕ
first_repeat = repeat_after []

-- the binders of parameters in their order, where no token is given; else the fault that at this token a
-- variable stands for the second time
abbrev pub twice_at : Option ℕ → List Param → Typing (List Binder)
twice_at None ps = Ok (map binder_of ps)
twice_at (Some at) ps = Err (VariableTwice at)

-- the binders of a whole pattern or parameter list in their order, or the fault at the first entry whose
-- variable stands before it in the list
abbrev pub distinct_binders : List Param → Typing (List Binder)
distinct_binders ps = twice_at (first_repeat ps) ps

-- Patterns ----------------------------------------------------------------------------------

-- the types of a constructor's fields; none where the program has no such constructor, which a well numbered
-- program never names
abbrev pub field_types : List DataDecl → ConRef → List Ty
field_types types c = unwrap_or (fields_of types c) []

-- what a pattern binds at a type, from left to right, each variable with its token, or the first fault
abbrev pub PatternRule : Type 0
PatternRule = Ty → Typing (List Param)

-- the variables ps that the subpatterns so far bind, and behind them what the other subpatterns bind; the
-- fault of these, if they have one
abbrev pub also_bound : List Param → Typing (List Param) → Typing (List Param)
also_bound ps rest = and_then rest (λ qs. Ok (ps ++ qs))

-- what subpatterns bind, each at the type in its place, from left to right up to where the patterns or the
-- types end, or their first fault
abbrev pub subpatterns : List PatternRule → List Ty → Typing (List Param)
subpatterns [] ts = Ok []
subpatterns (p ∷ ps) [] = Ok []
subpatterns (p ∷ ps) (t ∷ ts) = and_then (p t) (λ bound. also_bound bound (subpatterns ps ts))

-- what the subpatterns of a constructor bind at the types of its fields. That there are as many of one as of
-- the other is checked before any of them; the fault is at the constructor's token
abbrev pub field_params : ℕ → List PatternRule → List Ty → Typing (List Param)
field_params at ps ts = if length ps == length ts then subpatterns ps ts else Err (Arity at (length ts) (length ps))

-- what one layer of a pattern binds at type t: a number has to be of the type, and a constructor of the data
-- type, else another type is found at the pattern's token; a variable has type t, and a wildcard and a number
-- bind nothing
abbrev pub pattern_step : List DataDecl → Pat-F PatternRule → PatternRule
pattern_step types (P.Wild at) t = Ok []
pattern_step types (P.Var at x) t = Ok (record { at = at; var = x; ty = t } ∷ [])
pattern_step types (P.Num at n) t = if type_holds t n then Ok [] else Err (Mismatch at t (number_type n))
pattern_step types (P.Con at c ps) t =
    if same_type t (Named c.ty) then field_params at ps (field_types types c) else Err (Mismatch at t (Named c.ty))

-- what a pattern binds at a type, or the first fault in its parts; a variable may still stand twice in it
abbrev pub pattern_params : List DataDecl → Pat → PatternRule
pattern_params types = fold-Pat PatternRule (pattern_step types)

-- the binders of a whole pattern at a type, in their order, or its first fault: in its parts from left to
-- right, or else at the first variable that stands in the pattern for the second time
abbrev pub pattern_binders : List DataDecl → Pat → Ty → Typing (List Binder)
pattern_binders types p t = and_then (pattern_params types p t) distinct_binders

-- Expressions -------------------------------------------------------------------------------

-- an expression's first token, and what it is typed as, given the type that is wanted of it or none and its
-- scope
pub record Rule : Type 0 where
  pub at : ℕ
  pub answer : Option Ty → List Binder → Typing Ty

-- what a clause's body is typed as, given the scrutinee's type, the type that is wanted of the body or none,
-- and the scope of the match
abbrev pub ClauseRule : Type 0
ClauseRule = Ty → Option Ty → List Binder → Typing Ty

-- the type of a number: the wanted type, if it holds the number, else a fault; u64 where none is wanted
abbrev pub number_typing : ℕ → ℕ → Option Ty → Typing Ty
number_typing at n None = Ok (Int 64)
number_typing at n (Some wanted) = if type_holds wanted n then Ok wanted else Err (Mismatch at wanted (number_type n))

-- each argument typed with the type in its place wanted, from left to right up to where the arguments or the
-- types end, or their first fault
abbrev pub each_argument : List Rule → List Ty → List Binder → Typing (Unit {0})
each_argument [] ts scope = Ok tt
each_argument (e ∷ es) [] scope = Ok tt
each_argument (e ∷ es) (t ∷ ts) scope = and_then (e.answer (Some t) scope) (λ found. each_argument es ts scope)

-- the arguments of a call or a construction, typed with the types of its parameters or fields wanted. That
-- there are as many of one as of the other is checked before any of them; the fault is at the form's token
abbrev pub arguments : ℕ → List Rule → List Ty → List Binder → Typing (Unit {0})
arguments at es ts scope =
    if length es == length ts then each_argument es ts scope else Err (Arity at (length ts) (length es))

-- the parameters of a function; none where there is no function
abbrev pub params_of : Option Fun → List Param
params_of None = []
params_of (Some f) = f.params

-- the types of the parameters of function g; none where the program has no such function, which a well
-- numbered program never names
abbrev pub param_types : List Fun → ℕ → List Ty
param_types funs g = map (λ p. p.ty) (params_of (slice_get funs g))

-- the type of a function's result; u64 where there is no function
abbrev pub result_of : Option Fun → Ty
result_of None = Int 64
result_of (Some f) = f.result

-- the type of the result of function g; u64 where the program has no such function, which a well numbered
-- program never names
abbrev pub result_type : List Fun → ℕ → Ty
result_type funs g = result_of (slice_get funs g)

-- the wanted type, if it is an integer type; none where a data type or nothing is wanted
abbrev pub integer_wanted : Option Ty → Option Ty
integer_wanted None = None
integer_wanted (Some (Int n)) = Some (Int n)
integer_wanted (Some (Named t)) = None

-- what is wanted of an operator's first operand, where `wanted` is wanted of its result: of `eq` and `lt`
-- nothing, of each other operator the wanted type, if it is an integer type, else nothing
abbrev pub operand_wanted : Op → Option Ty → Option Ty
operand_wanted Eq wanted = None
operand_wanted Lt wanted = None
operand_wanted op wanted = integer_wanted wanted

-- the type of an operator's result, where t is the type of its operands: `eq` and `lt` give one bit, the
-- other operators what their operands are
abbrev pub operator_type : Op → Ty → Ty
operator_type Eq t = Int 1
operator_type Lt t = Int 1
operator_type op t = t

-- the type of an expression that has to be an integer, at a wanted type or none and in a scope; where it is
-- typed at a data type, the fault is at its first token
abbrev pub integer_operand : Rule → Option Ty → List Binder → Typing Ty
integer_operand e wanted scope = and_then (e.answer wanted scope) (integer e.at)

-- the type of an operator's operands: the first has to be an integer, and of the second the type of the first
-- is wanted
abbrev pub operands_typing : Op → Rule → Rule → Option Ty → List Binder → Typing Ty
operands_typing op a b wanted scope =
    and_then (integer_operand a (operand_wanted op wanted) scope) (λ t. b.answer (Some t) scope)

-- the type of a match's clauses, with a scrutinee of this type: the type that is found for each clause is
-- wanted of the next. Behind the last clause it is the wanted type; u64 where there is no clause and none is
-- wanted, which a well numbered program never meets
abbrev pub clauses_typing : List ClauseRule → Ty → Option Ty → List Binder → Typing Ty
clauses_typing [] scrutinee wanted scope = Ok (unwrap_or wanted (Int 64))
clauses_typing (c ∷ cs) scrutinee wanted scope =
    and_then (c scrutinee wanted scope) (λ found. clauses_typing cs scrutinee (Some found) scope)

-- what one layer of a clause is typed as: its pattern at the scrutinee's type, then its body, in the scope
-- with what the pattern binds behind it
abbrev pub clause_step : List DataDecl → Clause-F Rule ClauseRule → ClauseRule
clause_step types c scrutinee wanted scope =
    and_then (pattern_binders types c.pat scrutinee) (λ binders. c.body.answer wanted (scope ++ binders))

-- what one layer of an expression is typed as, from the rules of its parts
abbrev pub answer_step : List DataDecl → List Fun → Expr-F Rule ClauseRule → Option Ty → List Binder → Typing Ty
answer_step types funs (E.Num at n) wanted scope = number_typing at n wanted
answer_step types funs (E.Var at x) wanted scope = as_wanted at wanted (variable_type x scope)
answer_step types funs (E.Call at g es) wanted scope =
    and_then (arguments at es (param_types funs g) scope) (λ typed. as_wanted at wanted (result_type funs g))
answer_step types funs (E.Build at c es) wanted scope =
    and_then (arguments at es (field_types types c) scope) (λ typed. as_wanted at wanted (Named c.ty))
answer_step types funs (E.Binary at op a b) wanted scope =
    and_then (operands_typing op a b wanted scope) (λ t. as_wanted at wanted (operator_type op t))
answer_step types funs (E.To at bits a) wanted scope =
    and_then (integer_operand a None scope) (λ t. as_wanted at wanted (Int bits))
answer_step types funs (E.Let at x ty a b) wanted scope =
    and_then (a.answer (Some ty) scope) (λ t. b.answer wanted (scope ++ record { var = x; ty = ty } ∷ []))
answer_step types funs (E.Match at e cs) wanted scope =
    and_then (e.answer None scope) (λ scrutinee. clauses_typing cs scrutinee wanted scope)

-- the first token of one layer of an expression
abbrev pub token_step : Expr-F Rule ClauseRule → ℕ
token_step (E.Num at n) = at
token_step (E.Var at x) = at
token_step (E.Call at g es) = at
token_step (E.Build at c es) = at
token_step (E.Binary at op a b) = at
token_step (E.To at bits a) = at
token_step (E.Let at x ty a b) = at
token_step (E.Match at e cs) = at

-- the rule of one layer of an expression, from the rules of its parts
abbrev pub rule_step : List DataDecl → List Fun → Expr-F Rule ClauseRule → Rule
rule_step types funs e = record { at = token_step e; answer = answer_step types funs e }

-- the rule of an expression: its first token, and what it is typed as
abbrev pub rule_of : List DataDecl → List Fun → Expr → Rule
rule_of types funs = fold-Expr Rule ClauseRule (rule_step types funs) (clause_step types)

-- the rule of a clause: what its body is typed as behind its pattern
abbrev pub clause_rule : List DataDecl → List Fun → Clause → ClauseRule
clause_rule types funs = fold-Clause Rule ClauseRule (rule_step types funs) (clause_step types)

-- the type of an expression, at a wanted type or none and in a scope, or the first fault in it
abbrev pub type_of : List DataDecl → List Fun → Expr → Option Ty → List Binder → Typing Ty
type_of types funs e = (rule_of types funs e).answer
