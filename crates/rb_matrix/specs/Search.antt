-- What a search looks for: a vector of values, of the columns' types, that all wanted rows match and no unwanted one.
-- It is Maranget's question of usefulness: a row is useful behind the rows of a pattern matrix where such a vector
-- is, with that row wanted and the others unwanted, and else it is useless. Several wanted rows are useful together,
-- by a vector that all of them match.
use Rattle.std.specs.Prelude.{◌≡◌, ◌^◌, List, [], ◌∷◌, map, Bool, true, false, ◌&&◌, not, ◌==◌, nat_lt, Option, Some, None}
use Rattle.std.specs.List.{list_all}
use Rattle.rb_core.specs.declared.value.Value.{Value}
use Rattle.rb_core.specs.declared.types.Ty.{Ty}
use Rattle.rb_core.specs.declared.types.Ty.TheVariants.{Int, Named}
use Rattle.rb_core.specs.declared.types.DataDecl.{DataDecl}
use Rattle.rb_core.specs.declared.pattern.Pat.{Pat}
use Rattle.rb_core.specs.declared.pattern.Pat.TheOpen as P
use Rattle.rb_core.specs.declared.pattern.Pat.TheOpen.{Pat-F}
use Rattle.rb_core.specs.declared.pattern.Pat.TheFolds.{fold-Pat}
use Rattle.rb_core.specs.TypedPrograms.{HaveValues}
use Rattle.rb_core.specs.Values.{all_of_types, are_of, fields_of}
use Rattle.rb_core.specs.WellNumbered.{is_type, type_is_numbered}
use Rattle.rb_matrix.specs.Rows.{row_matches, any_row, all_rows, vector_of}

-- Types that have a value ---------------------------------------------------------------------

-- a type over these data types: an integer type of 1 to 64 bits, or one of the data types
abbrev pub IsTypeIn : List DataDecl → Ty → Type 0
IsTypeIn types ty = is_type types ty ≡ true

-- each of the types is an integer type of 1 to 64 bits or one of these data types; so it is where there is no type
abbrev pub AreTypesIn : List DataDecl → List Ty → Type 0
AreTypesIn types [] = Unit {0}
AreTypesIn types (t ∷ ts) = IsTypeIn types t × AreTypesIn types ts

-- the data types are numbered as those of a well numbered program, so that each has a constructor and each field's
-- type is there, and each has a value; so it is where there is no data type
pub record AreInhabited (types : List DataDecl) : Type 0 where
  pub numbered : list_all (type_is_numbered types) types ≡ true
  pub values : HaveValues types

-- Plain patterns ------------------------------------------------------------------------------

-- whether a pattern is plain and of a type, where it is given by its outermost node with the same question of its
-- subpatterns in their places. A wildcard is of every type, and a number of an integer type that holds it. A
-- constructor is of its data type where its subpatterns are as many as its fields and each is of its field's type;
-- one that the data types do not have is of none. A variable is not plain
abbrev pub plain_step : List DataDecl → Pat-F (Ty → Bool) → Ty → Bool
plain_step types (P.Wild at) t = true
plain_step types (P.Var at x) t = false
plain_step types (P.Num at n) (Int bits) = nat_lt n (2 ^ bits)
plain_step types (P.Num at n) (Named t) = false
plain_step types (P.Con at c ps) (Int bits) = false
plain_step types (P.Con at c ps) (Named t) = (c.ty == t) && are_of ps (fields_of types c)

-- whether a pattern is plain, which is to say of numbers, constructors and wildcards alone, and is of a type
abbrev pub is_plain : List DataDecl → Pat → Ty → Bool
is_plain types = fold-Pat (Ty → Bool) (plain_step types)

-- whether a row has as many patterns as there are types, each of numbers, constructors and wildcards alone, and of
-- the type in its place
abbrev pub row_plain : List DataDecl → List Ty → List Pat → Bool
row_plain types tys ps = all_of_types (map (is_plain types) ps) tys

-- The search ----------------------------------------------------------------------------------

-- whether the wanted rows are useful behind the unwanted ones by this vector: it has these types, all wanted rows
-- match it, and no unwanted one does
abbrev pub useful_by : List DataDecl → List Ty → List (List Pat) → List (List Pat) → List Value → Bool
useful_by types tys wanted unwanted vs = vector_of types tys vs && (all_rows wanted vs && not (any_row unwanted vs))

-- a row of plain patterns of these types: by each vector of these types that it matches, the wanted rows are useful
-- behind the unwanted ones, and it matches one
pub record RowIsFound (types : List DataDecl) (tys : List Ty) (wanted unwanted : List (List Pat))
    (row : List Pat) : Type 0 where
  pub plain : row_plain types tys row ≡ true
  pub value : List Value
  pub matched : row_matches row value ≡ true
  pub found : useful_by types tys wanted unwanted value ≡ true
  pub all : (vs : List Value) → vector_of types tys vs ≡ true → row_matches row vs ≡ true
      → useful_by types tys wanted unwanted vs ≡ true

-- the wanted rows are useless behind the unwanted ones: by no vector they are useful
abbrev pub AreUseless : List DataDecl → List Ty → List (List Pat) → List (List Pat) → Type 0
AreUseless types tys wanted unwanted = (vs : List Value) → useful_by types tys wanted unwanted vs ≡ false

-- what a search answers: None where the wanted rows are useless behind the unwanted ones, and else a row of plain
-- patterns that matches, of the vectors of these types, only such as they are useful by, and one at least
abbrev pub IsSearchAnswer : List DataDecl → List Ty → List (List Pat) → List (List Pat) → Option (List Pat) → Type 0
IsSearchAnswer types tys wanted unwanted None = AreUseless types tys wanted unwanted
IsSearchAnswer types tys wanted unwanted (Some row) = RowIsFound types tys wanted unwanted row
