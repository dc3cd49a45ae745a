-- Clause matrices (Maranget): rows of patterns with their clauses, over columns of values. A head is the number or
-- the constructor with which a pattern or a value begins. A position is a list of field numbers from the scrutinee's
-- root.
use Rattle.std.specs.Prelude.{ℕ, zero, suc, ◌^◌, List, [], ◌∷◌, ◌++◌, length, take, drop, Bool, true, ◌&&◌, if◌then◌else◌, Option, Some, None, is_some, unwrap_or, slice_get}
use Rattle.rb_core.specs.declared.value.Value.TheOpen as V
use Rattle.rb_core.specs.declared.types.Ty.{Ty}
use Rattle.rb_core.specs.declared.types.Ty.TheVariants.{Int, Named}
use Rattle.rb_core.specs.declared.types.DataDecl.{DataDecl}
use Rattle.rb_core.specs.declared.pattern.Pat.{Pat, out-Pat}
use Rattle.rb_matrix.specs.declared.matrix.Head.{Head}
use Rattle.rb_matrix.specs.Heads.{layer_begins, any_begins, layer_head, row_head, sample, fields_at}
use Rattle.rb_matrix.specs.Specialize.{special_row, default_row}
use Rattle.rb_decide.specs.declared.clause_matrix.Column.{Column}
use Rattle.rb_decide.specs.declared.clause_matrix.Row.{Row}

-- The matrix of a match: one row for each clause, counted from k -----------------------------------

-- for each pattern of a match, in order, a row of it alone, with the number of its clause, from k on
abbrev pub match_rows : ℕ → List Pat → List Row
match_rows k [] = []
match_rows k (p ∷ ps) = record { pats = p ∷ []; clause = k } ∷ match_rows (suc k) ps

-- the one column of a match's matrix: the scrutinee, of type ty, whose position has no fields
abbrev pub match_column : Ty → Column
match_column ty = record { position = []; ty = ty }

-- The column that is tested -------------------------------------------------------------------------

-- the number of a column, counted with one more column before it; none stays none
abbrev pub next_column : Option ℕ → Option ℕ
next_column None = None
next_column (Some i) = Some (suc i)

-- the number of the first column in which a row of these patterns has a number or a constructor; none where all are
-- wildcards and variables
abbrev pub first_test : List Pat → Option ℕ
first_test [] = None
first_test (p ∷ ps) = if is_some (layer_head (out-Pat p)) then Some 0 else next_column (first_test ps)

-- a list with an item put before it, if there is one
abbrev pub before : {A : Type 0} → Option A → List A → List A
before None xs = xs
before (Some x) xs = x ∷ xs

-- a list with item i at the front and the others in their order; the list as it is where it has no item i
abbrev pub to_front : {A : Type 0} → ℕ → List A → List A
to_front i xs = before (slice_get xs i) (take i xs ++ drop (suc i) xs)

-- a row with its pattern i at the front and the others in their order; as it is where it has no pattern i
abbrev pub row_to_front : ℕ → Row → Row
row_to_front i r = record { pats = to_front i r.pats; clause = r.clause }

-- Its heads -----------------------------------------------------------------------------------------

-- the heads of a list that differ from head h, constructors being told apart by their numbers in their type
abbrev pub without : Head → List Head → List Head
without h [] = []
without h (g ∷ gs) = if layer_begins h (sample g) then without h gs else g ∷ without h gs

-- a list of heads; where there is a head to put first, it stands before those of the list that differ from it
abbrev pub with_first : Option Head → List Head → List Head
with_first None hs = hs
with_first (Some h) hs = h ∷ without h hs

-- the heads that stand in the first column of these rows, each once, in the order of first standing there
abbrev pub column_heads : List Row → List Head
column_heads [] = []
column_heads (r ∷ rs) = with_first (row_head r.pats) (column_heads rs)

-- f is true of each number below n
abbrev pub all_below : ℕ → (ℕ → Bool) → Bool
all_below zero f = true
all_below (suc n) f = f n && all_below n f

-- how many constructors a type has; 0 where there is no such type
abbrev pub con_count : Option DataDecl → ℕ
con_count None = 0
con_count (Some d) = length d.cons

-- whether heads are a complete signature of a type: all its constructors, or all numbers of its width
abbrev pub is_complete : List DataDecl → Ty → List Head → Bool
is_complete types (Int bits) hs = all_below (2 ^ bits) (λ n. any_begins hs (V.Num n))
is_complete types (Named t) hs = all_below (con_count (slice_get types t)) (λ k. any_begins hs (V.Con k []))

-- S and D, each row with its clause -----------------------------------------------------------------

-- these rows, and before them one of the given patterns with clause k, if patterns are given
abbrev pub keep_row : Option (List Pat) → ℕ → List Row → List Row
keep_row None k rs = rs
keep_row (Some ps) k rs = record { pats = ps; clause = k } ∷ rs

-- the specialised matrix S: the rows that match values beginning with head h, with patterns for its n fields in place
-- of the first pattern
abbrev pub special_rows : Head → ℕ → List Row → List Row
special_rows h n [] = []
special_rows h n (r ∷ rs) = keep_row (special_row h n r.pats) r.clause (special_rows h n rs)

-- the default matrix D: the rows whose first pattern is a wildcard or a variable, without that pattern
abbrev pub default_rows : List Row → List Row
default_rows [] = []
default_rows (r ∷ rs) = keep_row (default_row r.pats) r.clause (default_rows rs)

-- the types of the fields of head h at type ty, in order; none where the head is not of that type
abbrev pub field_types : List DataDecl → Ty → Head → List Ty
field_types types ty h = unwrap_or (fields_at types ty h) []

-- for the types of the fields of what stands at a position, in order, the columns of these fields, from field i on
abbrev pub field_columns : List ℕ → ℕ → List Ty → List Column
field_columns position i [] = []
field_columns position i (t ∷ ts) = record { position = position ++ i ∷ []; ty = t } ∷ field_columns position (suc i) ts
