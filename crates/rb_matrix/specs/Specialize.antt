-- The specialised matrix S of a head and the default matrix D, both on the first column, as Maranget defines them. A
-- head is a number or a constructor with which a pattern or a value begins. Of the vectors of the columns' types whose
-- first value begins with the head, a pattern matrix matches those that S matches once that value is replaced by its
-- subvalues. Of the vectors whose first value begins with no head of the first column, it matches those that D matches
-- without that value. What becomes of a row in S is its specialised row, and in D its default row. A row that has
-- none, for which None stands, is left out. Rows need not be typed. A layer is the outermost node of a pattern, with
-- its subpatterns below it.
use Rattle.std.specs.Prelude.{◌≡◌, ℕ, List, [], ◌∷◌, ◌++◌, length, replicate, drop, true, false, ◌&&◌, ◌==◌, if◌then◌else◌, Option, Some, None, unwrap_or}
use Rattle.rb_core.specs.declared.value.Value.{Value, out-Value}
use Rattle.rb_core.specs.declared.types.ConRef.{ConRef}
use Rattle.rb_core.specs.declared.types.Ty.{Ty}
use Rattle.rb_core.specs.declared.types.DataDecl.{DataDecl}
use Rattle.rb_core.specs.declared.pattern.Pat.{Pat, Wild, out-Pat}
use Rattle.rb_core.specs.declared.pattern.Pat.TheOpen as P
use Rattle.rb_core.specs.declared.pattern.Pat.TheOpen.{Pat-F}
use Rattle.rb_matrix.specs.declared.matrix.Head.{Head}
use Rattle.rb_matrix.specs.declared.matrix.Head.TheVariants as H
use Rattle.rb_matrix.specs.declared.matrix.Matrix.{Matrix}
use Rattle.rb_matrix.specs.Heads.{begins, unfolded_vector, column_begins, column_fields}
use Rattle.rb_matrix.specs.Rows.{any_row, vector_of}

-- a row of n wildcards, each with token number 0, as it stands at no token of a file; the empty row for 0
abbrev pub wilds : ℕ → List Pat
wilds n = replicate n (Wild 0)

-- the specialised row for a head, of a row that begins with number n and goes on with `rest`: the rest where the head
-- is that number, and else none
abbrev pub special_of_number : Head → ℕ → List Pat → Option (List Pat)
special_of_number (H.Num m) n rest = if n == m then Some rest else None
special_of_number (H.Con c) n rest = None

-- the specialised row for a head with n fields, of a row that begins with constructor c of these subpatterns and goes
-- on with `rest`: the subpatterns and then the rest, where the head has the same number and there are n subpatterns;
-- else none
abbrev pub special_of_con : Head → ℕ → ConRef → List Pat → List Pat → Option (List Pat)
special_of_con (H.Num m) n c ps rest = None
special_of_con (H.Con d) n c ps rest = if (c.con == d.con) && (length ps == n) then Some (ps ++ rest) else None

-- the specialised row for a head with n fields, of a row whose first pattern has this layer and that goes on with
-- `rest`: n wildcards and then the rest for a wildcard or a variable; the rest for the head's number; the subpatterns
-- and then the rest for the head's constructor with n subpatterns. None for another number or constructor, or another
-- number of subpatterns
abbrev pub special_of_layer : Head → ℕ → List Pat → Pat-F Pat → Option (List Pat)
special_of_layer h n rest (P.Wild at) = Some (wilds n ++ rest)
special_of_layer h n rest (P.Var at x) = Some (wilds n ++ rest)
special_of_layer h n rest (P.Num at k) = special_of_number h k rest
special_of_layer h n rest (P.Con at c ps) = special_of_con h n c ps rest

-- a row's specialised row for a head with n fields: the subpatterns of its first pattern, or n wildcards for a
-- wildcard or a variable, stand in that pattern's place. None where the first pattern has another head or another
-- number of subpatterns than n, or where the row is empty
abbrev pub special_row : Head → ℕ → List Pat → Option (List Pat)
special_row h n [] = None
special_row h n (p ∷ ps) = special_of_layer h n ps (out-Pat p)

-- the default row of a row whose first pattern has this layer and that goes on with `rest`: the rest, where the first
-- pattern is a wildcard or a variable; None where it is a number or a constructor
abbrev pub default_of_layer : List Pat → Pat-F Pat → Option (List Pat)
default_of_layer rest (P.Wild at) = Some rest
default_of_layer rest (P.Var at x) = Some rest
default_of_layer rest (P.Num at k) = None
default_of_layer rest (P.Con at c ps) = None

-- a row's default row: the row without its first pattern, where that is a wildcard or a variable. None where it is a
-- number or a constructor, or where the row is empty
abbrev pub default_row : List Pat → Option (List Pat)
default_row [] = None
default_row (p ∷ ps) = default_of_layer ps (out-Pat p)

-- some rows with what became of another in front; the rows alone where that is left out
abbrev pub keep : Option (List Pat) → List (List Pat) → List (List Pat)
keep None rs = rs
keep (Some r) rs = r ∷ rs

-- the rows of S for a head with n fields: the specialised rows that there are, in the order of the rows
abbrev pub special : Head → ℕ → List (List Pat) → List (List Pat)
special h n [] = []
special h n (r ∷ rs) = keep (special_row h n r) (special h n rs)

-- the rows of D: the default rows that there are, in the order of the rows
abbrev pub defaults : List (List Pat) → List (List Pat)
defaults [] = []
defaults (r ∷ rs) = keep (default_row r) (defaults rs)

-- the types of a head's fields, where the head is of the first column's type; the empty list where it is not, or
-- where there is no column
abbrev pub fields_or_none : List DataDecl → List Ty → Head → List Ty
fields_or_none types tys h = unwrap_or (column_fields types tys h) []

-- S of a matrix for a head: the columns of the head's fields stand in place of the first. Where the head is not of
-- the first column's type, it counts as one without fields, and where there is no column, there is none in S either
abbrev pub specialized_matrix : List DataDecl → Head → Matrix → Matrix
specialized_matrix types h m = record {
  tys = fields_or_none types m.tys h ++ drop 1 m.tys;
  rows = special h (length (fields_or_none types m.tys h)) m.rows;
}

-- D of a matrix: the first column is gone, and so are the rows that begin with a head or are empty; a matrix without
-- columns has none in D either
abbrev pub default_matrix : Matrix → Matrix
default_matrix m = record { tys = drop 1 m.tys; rows = defaults m.rows }

-- What S and D match -----------------------------------------------------------------------------

-- a vector of matrix m's types that begins with the head has matrix s's types when it is unfolded, and m matches it
-- exactly where s matches it unfolded
abbrev pub UnfoldsAlike : List DataDecl → Head → Matrix → Matrix → Type 0
UnfoldsAlike types h m s =
    (v : Value) (vs : List Value) → begins h v ≡ true → vector_of types m.tys (v ∷ vs) ≡ true
    → (vector_of types s.tys (unfolded_vector (v ∷ vs)) ≡ true)
    × (any_row m.rows (v ∷ vs) ≡ any_row s.rows (unfolded_vector (v ∷ vs)))

-- a vector whose first value begins with no head of matrix m's first column is matched by m exactly where d matches
-- the vector without its first value
abbrev pub RestsAlike : Matrix → Matrix → Type 0
RestsAlike m d =
    (v : Value) (vs : List Value) → column_begins m.rows (out-Value v) ≡ false
    → any_row m.rows (v ∷ vs) ≡ any_row d.rows vs
