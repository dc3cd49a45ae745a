-- Patterns as the rows of a pattern matrix of one column, and what a search in it answers. Wanted rows are useful
-- behind unwanted ones by a vector where it has the columns' types, all wanted rows match it and no unwanted one does;
-- they are useless where there is no such vector. A plain pattern is one of numbers, constructors and wildcards. The
-- first pattern of a list has number 0.
use Rattle.std.specs.Prelude.{◌≡◌, ◌≤◌, ℕ, List, [], ◌∷◌, Bool, true, false, ◌||◌, Option, Some, None}
use Rattle.rb_core.specs.declared.value.Value.{Value}
use Rattle.rb_core.specs.declared.types.Ty.{Ty}
use Rattle.rb_core.specs.declared.types.DataDecl.{DataDecl}
use Rattle.rb_core.specs.declared.pattern.Pat.{Pat}
use Rattle.rb_core.specs.Matching.{matches_of, IsUnreached}
use Rattle.rb_core.specs.Values.{is_of_type}
use Rattle.rb_matrix.specs.Exhaust.{IsReached}
use Rattle.rb_matrix.specs.Search.{RowIsFound, AreUseless}

-- the patterns, in their order, each as a row of its own
abbrev pub one_each : List Pat → List (List Pat)
one_each [] = []
one_each (p ∷ ps) = (p ∷ []) ∷ one_each ps

-- whether some pattern of a list matches a value; false where the list is empty
abbrev pub any_matches : List Pat → Value → Bool
any_matches [] v = false
any_matches (p ∷ ps) v = matches_of p v || any_matches ps v

-- q is useful behind the patterns of a list: some value of the type is matched by q and by none of them
pub record IsUseful (types : List DataDecl) (ty : Ty) (ps : List Pat) (q : Pat) : Type 0 where
  pub value : Value
  pub typed : is_of_type types value ty ≡ true
  pub matched : matches_of q value ≡ true
  pub none : any_matches ps value ≡ false

-- q is useless behind the patterns of a list: each value of the type that q matches is matched by one of them
abbrev pub IsUseless : List DataDecl → Ty → List Pat → Pat → Type 0
IsUseless types ty ps q =
    (v : Value) → is_of_type types v ty ≡ true → matches_of q v ≡ true → any_matches ps v ≡ true

-- true where q is useful behind the patterns of a list, and false where it is useless behind them
abbrev pub IsUseAnswer : List DataDecl → Ty → List Pat → Pat → Bool → Type 0
IsUseAnswer types ty ps q true = IsUseful types ty ps q
IsUseAnswer types ty ps q false = IsUseless types ty ps q

-- from number n on, each pattern is the first match of no value of the type
abbrev pub IsEnd : List DataDecl → Ty → List Pat → ℕ → Type 0
IsEnd types ty ps n = (i : ℕ) → n ≤ i → IsUnreached types ty ps i

-- true where the pattern with number i is the first match of some value of the type, and false where it is the first
-- match of none, as a number without a pattern is
abbrev pub IsReachAnswer : List DataDecl → Ty → List Pat → ℕ → Bool → Type 0
IsReachAnswer types ty ps i true = IsReached types ty ps i
IsReachAnswer types ty ps i false = IsUnreached types ty ps i

-- what a search over one column of this type answers: None where the wanted rows are useless, and else the one
-- pattern of a row of plain patterns that matches, of the vectors of this type, only such as they are useful by, and
-- one at least
abbrev pub IsOneAnswer : List DataDecl → Ty → List (List Pat) → List (List Pat) → Option Pat → Type 0
IsOneAnswer types ty wanted unwanted None = AreUseless types (ty ∷ []) wanted unwanted
IsOneAnswer types ty wanted unwanted (Some q) = RowIsFound types (ty ∷ []) wanted unwanted (q ∷ [])
