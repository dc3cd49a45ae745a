-- The variables that an expression uses, and scopes and values that agree on them. Variables are numbered, and so a
-- list of numbers is one of variables, which may have one more than once. A scope is a list of variables with their
-- types, an environment one of variables with their values. A pattern that is pruned for an expression has wildcards
-- in place of numbers and of some variables that the expression does not use; the others are kept. Marks tell which
-- variables are used.
use Rattle.std.specs.Prelude.{◌≡◌, ◌≤◌, ℕ, ◌-◌, Bool, true, nat_lt, if◌then◌else◌, unwrap_or, slice_get, List, [], ◌∷◌, ◌++◌, Contains}
use Rattle.std.specs.List.{flat_map}
use Rattle.rb_core.specs.declared.typing.Binder.{Binder}
use Rattle.rb_core.specs.declared.binding.Binding.{Binding}
use Rattle.rb_core.specs.declared.expression.Expr.{Expr}
use Rattle.rb_core.specs.declared.expression.Expr.TheOpen as E
use Rattle.rb_core.specs.declared.expression.Expr.TheOpen.{Expr-F}
use Rattle.rb_core.specs.declared.expression.Expr.TheFolds.{fold-Expr, fold-Clause}
use Rattle.rb_core.specs.declared.expression.Clause.{Clause, Clause-F}
use Rattle.rb_core.specs.declared.value.Value.{Value}
use Rattle.rb_core.specs.declared.types.Ty.{Ty}
use Rattle.rb_core.specs.declared.types.DataDecl.{DataDecl}
use Rattle.rb_core.specs.declared.pattern.Pat.{Pat, Wild, Var, Con}
use Rattle.rb_core.specs.declared.pattern.Pat.TheOpen as P
use Rattle.rb_core.specs.declared.pattern.Pat.TheOpen.{Pat-F}
use Rattle.rb_core.specs.declared.pattern.Pat.TheFolds.{fold-Pat}
use Rattle.rb_core.specs.Typing.{variable_type}
use Rattle.rb_compile.specs.declared.used.Marks.{Marks}
use Rattle.rb_core.specs.Inference.{binders}
use Rattle.rb_core.specs.Matching.{bindings, matches_of}
use Rattle.rb_core.specs.Meaning.{value_in}
use Rattle.rb_layout.specs.declared.layout.Layout.{Layout}
use Rattle.rb_match.specs.Bounding.{binding_bound}

-- the variables of an expression, from those of its parts: each one where it stands, and none where one is bound
abbrev pub variables_step : Expr-F (List ℕ) (List ℕ) → List ℕ
variables_step (E.Num at n) = []
variables_step (E.Var at x) = x ∷ []
variables_step (E.Call at g xss) = flat_map (λ xs. xs) xss
variables_step (E.Build at c xss) = flat_map (λ xs. xs) xss
variables_step (E.Binary at op xs ys) = xs ++ ys
variables_step (E.To at bits xs) = xs
variables_step (E.Let at x t xs ys) = xs ++ ys
variables_step (E.Match at xs yss) = xs ++ flat_map (λ ys. ys) yss

-- the variables of a clause, where those of its body are given: the same
abbrev pub body_variables : Clause-F (List ℕ) (List ℕ) → List ℕ
body_variables c = c.body

-- the variables that stand in an expression
abbrev pub variables_in : Expr → List ℕ
variables_in = fold-Expr (List ℕ) (List ℕ) variables_step body_variables

-- the variables that stand in the body of a clause
abbrev pub variables_of_clause : Clause → List ℕ
variables_of_clause = fold-Clause (List ℕ) (List ℕ) variables_step body_variables

-- two scopes give each of these variables the same type; one that a scope does not have is u64 there
abbrev pub ScopesAgree : List ℕ → List Binder → List Binder → Type 0
ScopesAgree xs s s' = (x : ℕ) → Contains xs x → variable_type x s ≡ variable_type x s'

-- two environments give each of these variables the same value; one that an environment does not have is 0 there
abbrev pub ValuesAgree : List ℕ → List Binding → List Binding → Type 0
ValuesAgree xs e e' = (x : ℕ) → Contains xs x → value_in e x ≡ value_in e' x

-- Patterns without variables that are not used ---------------------------------------------------

-- a pattern without numbers and the variables that are not kept, from such patterns in its fields
abbrev pub pruned_step : (ℕ → Bool) → Pat-F Pat → Pat
pruned_step keeps (P.Wild at) = Wild at
pruned_step keeps (P.Var at x) = if keeps x then Var at x else Wild at
pruned_step keeps (P.Num at n) = Wild at
pruned_step keeps (P.Con at c ps) = Con at c ps

-- the pattern with wildcards in place of numbers, and of variables that are not kept
abbrev pub pruned_pattern : (ℕ → Bool) → Pat → Pat
pruned_pattern keeps = fold-Pat Pat (pruned_step keeps)

-- whether variable x is kept: marks say of each of some variables in a row whether it is used, and those before and
-- behind them are kept
abbrev pub is_kept : Marks → ℕ → Bool
is_kept m x = if nat_lt x m.first then true else unwrap_or (slice_get m.used (x - m.first)) true

-- each of these variables is kept, by what the marks say
abbrev pub AreKept : List ℕ → Marks → Type 0
AreKept xs m = (x : ℕ) → Contains xs x → is_kept m x ≡ true

-- each variable that the old marks keep is kept by the new ones
abbrev pub MarksMore : Marks → Marks → Type 0
MarksMore old new = (x : ℕ) → is_kept old x ≡ true → is_kept new x ≡ true

-- p is the pattern with wildcards in place of numbers and of some variables, none of which the expression uses
abbrev pub IsPrunedFor : Expr → Pat → Pat → Type 0
IsPrunedFor body pat p = (keeps : ℕ → Bool) × ((x : ℕ) → Contains (variables_in body) x → keeps x ≡ true)
    × (p ≡ pruned_pattern keeps pat)

-- What a clause's body needs of what takes the pattern's place, where the value that is matched is of type s: it
-- matches where the pattern does, binds the body's variables to the same, and costs no more to bind.
pub record Serves (types : List DataDecl) (layouts : List Layout) (body : Expr) (pat q : Pat) (s : Ty) : Type 0 where
  pub matches : (v : Value) → matches_of pat v ≡ true → matches_of q v ≡ true
  pub few : binding_bound types layouts s q ≤ binding_bound types layouts s pat
  pub scopes : (scope : List Binder) → ScopesAgree (variables_in body) (scope ++ binders types pat s)
      (scope ++ binders types q s)
  pub values : (env : List Binding) (v : Value) → ValuesAgree (variables_in body) (env ++ bindings pat v)
      (env ++ bindings q v)
