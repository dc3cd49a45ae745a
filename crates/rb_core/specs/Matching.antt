-- Matching: which values a pattern matches, what it binds, and which clause of a match is chosen. Clauses are
-- numbered from 0, and the patterns of a list are those of a match's clauses in their order. A test is
-- whether a value matches. In one layer of a pattern or a value, what is nested stands in its place.
use Rattle.std.specs.Prelude.{◌≡◌, ◌<◌, ℕ, suc, List, [], ◌∷◌, ◌++◌, Bool, true, false, ◌&&◌, ◌==◌, if◌then◌else◌, Option, Some, None, IsSome, slice_get}
use Rattle.rb_core.specs.declared.value.Value.{Value, out-Value}
use Rattle.rb_core.specs.declared.value.Value.TheOpen as V
use Rattle.rb_core.specs.declared.value.Value.TheOpen.{Value-F}
use Rattle.rb_core.specs.declared.binding.Binding.{Binding}
use Rattle.rb_core.specs.declared.types.Ty.{Ty}
use Rattle.rb_core.specs.declared.types.DataDecl.{DataDecl}
use Rattle.rb_core.specs.declared.pattern.Pat.{Pat}
use Rattle.rb_core.specs.declared.pattern.Pat.TheOpen as P
use Rattle.rb_core.specs.declared.pattern.Pat.TheOpen.{Pat-F}
use Rattle.rb_core.specs.declared.pattern.Pat.TheFolds.{fold-Pat}
use Rattle.rb_core.specs.Values.{is_of_type}

-- each test passes at the value in its place, and there are as many of one as of the other
abbrev pub all_pass : List (Value → Bool) → List Value → Bool
all_pass [] [] = true
all_pass [] (v ∷ vs) = false
all_pass (t ∷ ts) [] = false
all_pass (t ∷ ts) (v ∷ vs) = t v && all_pass ts vs

-- one layer of a value is the number n; a construction is not
abbrev pub is_number : ℕ → Value-F Value → Bool
is_number n (V.Num m) = n == m
is_number n (V.Con k vs) = false

-- one layer of a value is a construction by the constructor with number c whose subvalues pass the tests, one
-- each; a number is not
abbrev pub is_con : ℕ → List (Value → Bool) → Value-F Value → Bool
is_con c ts (V.Num m) = false
is_con c ts (V.Con k vs) = (c == k) && all_pass ts vs

-- whether one layer of a pattern matches a value, where its subpatterns stand as tests
abbrev pub matches_step : Pat-F (Value → Bool) → Value → Bool
matches_step (P.Wild at) v = true
matches_step (P.Var at x) v = true
matches_step (P.Num at n) v = is_number n (out-Value v)
matches_step (P.Con at c ts) v = is_con c.con ts (out-Value v)

-- whether a pattern matches a value: a wildcard and a variable match every value, a number that number alone,
-- and a constructor the constructions by its number whose subvalues its subpatterns match, one each
abbrev pub matches_of : Pat → Value → Bool
matches_of = fold-Pat (Value → Bool) matches_step

-- what patterns bind, each at the value in its place, from left to right, up to where the patterns or the
-- values end; a pattern is given as what it binds at a value
abbrev pub all_bindings : List (Value → List Binding) → List Value → List Binding
all_bindings [] vs = []
all_bindings (b ∷ bs) [] = []
all_bindings (b ∷ bs) (v ∷ vs) = b v ++ all_bindings bs vs

-- what subpatterns bind at one layer of a value: at a construction, each at the subvalue in its place; at a
-- number nothing
abbrev pub layer_bindings : List (Value → List Binding) → Value-F Value → List Binding
layer_bindings bs (V.Num m) = []
layer_bindings bs (V.Con k vs) = all_bindings bs vs

-- what one layer of a pattern binds at a value, from what its subpatterns bind
abbrev pub bindings_step : Pat-F (Value → List Binding) → Value → List Binding
bindings_step (P.Wild at) v = []
bindings_step (P.Var at x) v = record { var = x; value = v } ∷ []
bindings_step (P.Num at n) v = []
bindings_step (P.Con at c bs) v = layer_bindings bs (out-Value v)

-- the variables that a pattern binds at a value, with their values, from left to right; at a value that the
-- pattern does not match, what is bound says nothing
abbrev pub bindings : Pat → Value → List Binding
bindings = fold-Pat (Value → List Binding) bindings_step

-- a clause's number among all, from its number among those behind the first; none where there is none
abbrev pub next_clause : Option ℕ → Option ℕ
next_clause None = None
next_clause (Some i) = Some (suc i)

-- the number of the first clause whose pattern matches a value; none where no pattern does
abbrev pub chosen_clause : List Pat → Value → Option ℕ
chosen_clause [] v = None
chosen_clause (p ∷ ps) v = if matches_of p v then Some 0 else next_clause (chosen_clause ps v)

-- whether a pattern is there and matches a value
abbrev pub option_matches : Option Pat → Value → Bool
option_matches None v = false
option_matches (Some p) v = matches_of p v

-- whether the pattern of clause i matches a value; a clause that is not there does not match
abbrev pub clause_matches : List Pat → ℕ → Value → Bool
clause_matches ps i v = option_matches (slice_get ps i) v

-- clause i matches a value, and no clause before it does
pub record IsLeastMatch (ps : List Pat) (v : Value) (i : ℕ) : Type 0 where
  pub matches : clause_matches ps i v ≡ true
  pub least : (j : ℕ) → j < i → clause_matches ps j v ≡ false

-- this is the clause that is chosen for a value: the least that matches, or none, where no clause matches
abbrev pub IsChosen : List Pat → Value → Option ℕ → Type 0
IsChosen ps v None = (i : ℕ) → clause_matches ps i v ≡ false
IsChosen ps v (Some i) = IsLeastMatch ps v i

-- the clause that is chosen is always the least that matches, and there is none where none matches
abbrev pub ChosenIsLeast : Type 0
ChosenIsLeast = (ps : List Pat) (v : Value) → IsChosen ps v (chosen_clause ps v)

-- a match with these patterns is exhaustive: each value of its scrutinee's type `ty` has a chosen clause
abbrev pub IsExhaustive : List DataDecl → Ty → List Pat → Type 0
IsExhaustive types ty ps = (v : Value) → is_of_type types v ty ≡ true → IsSome (chosen_clause ps v)

-- clause i of a match is unreached: it is the chosen clause of no value of the scrutinee's type `ty`; so is a
-- clause that is not there
abbrev pub IsUnreached : List DataDecl → Ty → List Pat → ℕ → Type 0
IsUnreached types ty ps i = (v : Value) → is_of_type types v ty ≡ true → chosen_clause ps v ≡ Some i → ⊥
