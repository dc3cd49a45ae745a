-- The rows of a pattern matrix, each a list of patterns, one for each column, and the vectors that they match, each a
-- list of values, one for each column.
use Rattle.std.specs.Prelude.{List, [], ◌∷◌, map, Bool, true, false, ◌&&◌, ◌||◌, Option, Some, None}
use Rattle.rb_core.specs.declared.value.Value.{Value}
use Rattle.rb_core.specs.declared.types.Ty.{Ty}
use Rattle.rb_core.specs.declared.types.DataDecl.{DataDecl}
use Rattle.rb_core.specs.declared.pattern.Pat.{Pat}
use Rattle.rb_core.specs.Matching.{all_pass, matches_of}
use Rattle.rb_core.specs.Values.{is_of_type, all_of_types}

-- whether a row matches a vector: it has as many patterns as there are values, and each matches the value in its
-- place; the empty row matches the empty vector alone
abbrev pub row_matches : List Pat → List Value → Bool
row_matches ps vs = all_pass (map matches_of ps) vs

-- whether some row matches a vector; false where there is no row
abbrev pub any_row : List (List Pat) → List Value → Bool
any_row [] vs = false
any_row (r ∷ rs) vs = row_matches r vs || any_row rs vs

-- whether every row matches a vector; true where there is no row
abbrev pub all_rows : List (List Pat) → List Value → Bool
all_rows [] vs = true
all_rows (r ∷ rs) vs = row_matches r vs && all_rows rs vs

-- whether what a row becomes in a specialised or a default matrix matches a vector; None stands for a row that is
-- left out there, and matches nothing
abbrev pub row_or_none_matches : Option (List Pat) → List Value → Bool
row_or_none_matches None vs = false
row_or_none_matches (Some r) vs = row_matches r vs

-- whether a vector has these types: as many values as types, each of the type in its place; without a type, the empty
-- vector alone does
abbrev pub vector_of : List DataDecl → List Ty → List Value → Bool
vector_of types tys vs = all_of_types (map (is_of_type types) vs) tys
