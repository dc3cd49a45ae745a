-- Patterns one below another, as in a match: whether they match every value of a type, which of them are the first
-- match of some value, which is to say useful behind those before them, and whether two have a value in common. They
-- are rows of a pattern matrix of one column. A plain pattern is one of numbers, constructors and wildcards. The
-- first pattern of a list has number 0.
use Rattle.std.specs.Prelude.{◌≡◌, ℕ, ◌<◌, List, length, Contains, Bool, true, false, ◌&&◌, Option, Some, None, Result, Ok, Err}
use Rattle.std.specs.List.Sorted.{IsStrictlyIncreasing}
use Rattle.rb_core.specs.declared.value.Value.{Value}
use Rattle.rb_core.specs.declared.types.Ty.{Ty}
use Rattle.rb_core.specs.declared.types.DataDecl.{DataDecl}
use Rattle.rb_core.specs.declared.pattern.Pat.{Pat}
use Rattle.rb_core.specs.Matching.{matches_of, chosen_clause, IsExhaustive, IsUnreached}
use Rattle.rb_core.specs.Values.{is_of_type}
use Rattle.rb_matrix.specs.declared.coverage.MatrixFault.{MatrixFault}
use Rattle.rb_matrix.specs.declared.coverage.MatrixFault.TheVariants.{Missing, Memory}
use Rattle.rb_matrix.specs.Search.{is_plain}

-- Missing values ------------------------------------------------------------------------------

-- q is plain and of the type, and matches a value of the type; no pattern of the list matches a value of the type
-- that q matches
pub record IsMissing (types : List DataDecl) (ty : Ty) (ps : List Pat) (q : Pat) : Type 0 where
  pub plain : is_plain types q ty ≡ true
  pub value : Value
  pub typed : is_of_type types value ty ≡ true
  pub matched : matches_of q value ≡ true
  pub none : (v : Value) → is_of_type types v ty ≡ true → matches_of q v ≡ true → chosen_clause ps v ≡ None

-- what is answered of a list of patterns: Ok where each value of the type is matched by one, and else Missing with a
-- plain pattern that matches a value of the type, none of whose values of the type is matched; for want of memory
-- nothing is told
abbrev pub IsExhaustAnswer : List DataDecl → Ty → List Pat → Result (Unit {0}) MatrixFault → Type 0
IsExhaustAnswer types ty ps (Ok u) = IsExhaustive types ty ps
IsExhaustAnswer types ty ps (Err (Missing q)) = IsMissing types ty ps q
IsExhaustAnswer types ty ps (Err Memory) = Unit {0}

-- Unreached patterns --------------------------------------------------------------------------

-- the pattern with number i is the first match of some value of the type: it is useful behind those before it
pub record IsReached (types : List DataDecl) (ty : Ty) (ps : List Pat) (i : ℕ) : Type 0 where
  pub value : Value
  pub typed : is_of_type types value ty ≡ true
  pub chosen : chosen_clause ps value ≡ Some i

-- xs are the numbers, ascending, of exactly those among the first n patterns that are the first match of no value of
-- the type; each of the others among them is the first match of some value. A number below n without a pattern counts
-- as one that is the first match of no value
pub record AreUnreachedOf (types : List DataDecl) (ty : Ty) (ps : List Pat) (n : ℕ) (xs : List ℕ) : Type 0 where
  pub ascending : IsStrictlyIncreasing xs
  pub within : (i : ℕ) → Contains xs i → i < n
  pub unreached : (i : ℕ) → Contains xs i → IsUnreached types ty ps i
  pub every : (i : ℕ) → i < n → IsUnreached types ty ps i → Contains xs i
  pub others : (i : ℕ) → i < n → (Contains xs i → ⊥) → IsReached types ty ps i

-- xs are the numbers, ascending, of exactly those patterns of the list that are the first match of no value of the
-- type
abbrev pub AreUnreached : List DataDecl → Ty → List Pat → List ℕ → Type 0
AreUnreached types ty ps xs = AreUnreachedOf types ty ps (length ps) xs

-- Common values -------------------------------------------------------------------------------

-- whether a value matches both patterns
abbrev pub both_match : Pat → Pat → Value → Bool
both_match p q v = matches_of p v && matches_of q v

-- r is plain and of the type, and matches a value of the type; both patterns, p and q, match each value of the type
-- that r matches
pub record IsCommon (types : List DataDecl) (ty : Ty) (p q r : Pat) : Type 0 where
  pub plain : is_plain types r ty ≡ true
  pub value : Value
  pub typed : is_of_type types value ty ≡ true
  pub matched : matches_of r value ≡ true
  pub all : (v : Value) → is_of_type types v ty ≡ true → matches_of r v ≡ true → both_match p q v ≡ true

-- what is answered of two patterns: None where no value of the type matches both, and else a plain pattern all of
-- whose values of the type match both, and that has one at least
abbrev pub IsCommonAnswer : List DataDecl → Ty → Pat → Pat → Option Pat → Type 0
IsCommonAnswer types ty p q None = (v : Value) → is_of_type types v ty ≡ true → both_match p q v ≡ false
IsCommonAnswer types ty p q (Some r) = IsCommon types ty p q r
