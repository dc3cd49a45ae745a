-- Problems and their parts. A problem asks for a vector of some types that all wanted rows match and no unwanted one.
-- A part asks the same with the specialised matrices of its rows, of the vectors that begin with one head, unfolded;
-- or with the default matrices, of the vectors that begin with none of some heads, without their first value. The
-- problem is the parent of its parts, and the first one of all is the root. A step says how a row for a part becomes
-- one for its parent. The cost of a problem bounds how much is left to search.
use Rattle.std.specs.Prelude.{◌≡◌, ℕ, ◌+◌, ◌-◌, ◌*◌, ◌^◌, ◌<◌, ◌≤◌, List, [], ◌∷◌, ◌++◌, map, length, sum, take, drop, true, false, Option, Some, None}
use Rattle.rb_core.specs.declared.value.Value.{Value}
use Rattle.rb_core.specs.declared.types.Ty.{Ty}
use Rattle.rb_core.specs.declared.types.Ty.TheVariants.{Int, Named}
use Rattle.rb_core.specs.declared.types.Con.{Con}
use Rattle.rb_core.specs.declared.types.DataDecl.{DataDecl}
use Rattle.rb_core.specs.declared.pattern.Pat.{Pat}
use Rattle.rb_core.specs.declared.pattern.Pat as Pats
use Rattle.rb_matrix.specs.declared.matrix.Head.{Head}
use Rattle.rb_matrix.specs.declared.matrix.Head.TheVariants as H
use Rattle.rb_matrix.specs.declared.problem.Step.{Step}
use Rattle.rb_matrix.specs.declared.problem.Step.TheVariants.{Front, Fold}
use Rattle.rb_matrix.specs.declared.problem.Problem.{Problem}
use Rattle.rb_matrix.specs.Counts.{rows_head_count}
use Rattle.rb_matrix.specs.Heads.{begins}
use Rattle.rb_matrix.specs.Specialize.{special}
use Rattle.rb_matrix.specs.Search.{AreTypesIn, useful_by, RowIsFound, AreUseless}

-- The way from the root: how a row for a problem becomes one for its parent -------------------------

-- the row for the parent that a step makes of a row for a part: with a pattern before it, or with the first n
-- patterns as the subpatterns of a constructor; where the row is shorter, all that there are
abbrev pub row_for_parent : Step → List Pat → List Pat
row_for_parent (Front p) row = p ∷ row
row_for_parent (Fold c n) row = Pats.Con 0 c (take n row) ∷ drop n row

-- the step to a parent whose first column is of this type, from the part of a head with n fields: a number stands
-- before the row, and a constructor takes n patterns. The constructor is given as one of the data type, whatever type
-- the head names; it stays as it is where the type is an integer type, of which no constructor is
abbrev pub step_of : Ty → Head → ℕ → Step
step_of ty (H.Num m) n = Front (Pats.Num 0 m)
step_of (Named t) (H.Con c) n = Fold (record { ty = t; con = c.con }) n
step_of (Int bits) (H.Con c) n = Fold c n

-- the row for the root that steps make of a row, the last step first; without a step the row itself
abbrev pub row_for_root : List Step → List Pat → List Pat
row_for_root [] row = row
row_for_root (s ∷ ss) row = row_for_parent s (row_for_root ss row)

-- Problems and their parts ------------------------------------------------------------------------

-- a problem with one more column in front, of this type; the rows and the steps stay
abbrev pub with_column : Ty → Problem → Problem
with_column ty p = record { tys = ty ∷ p.tys; wanted = p.wanted; unwanted = p.unwanted; steps = p.steps }

-- the row answers a problem: it is of numbers, constructors and wildcards, of the columns' types; all vectors of
-- these types that it matches are asked for, and it matches one
abbrev pub FoundIn : List DataDecl → Problem → List Pat → Type 0
FoundIn types p row = RowIsFound types p.tys p.wanted p.unwanted row

-- there is no vector that a problem asks for
abbrev pub NoneIn : List DataDecl → Problem → Type 0
NoneIn types p = AreUseless types p.tys p.wanted p.unwanted

-- there is no vector of these types, the first column's and the others', that begins with the head, and that all
-- wanted rows of the problem match and no unwanted one
abbrev pub NoneBy : List DataDecl → Ty → List Ty → Problem → Head → Type 0
NoneBy types ty ts p h =
    (v : Value) (vs : List Value) → begins h v ≡ true → useful_by types (ty ∷ ts) p.wanted p.unwanted (v ∷ vs) ≡ false

-- How much is left --------------------------------------------------------------------------------

-- how many fields a constructor has
abbrev pub con_fields : Con → ℕ
con_fields c = length c.fields

-- how many fields all constructors of a data type have together
abbrev pub decl_fields : DataDecl → ℕ
decl_fields d = sum (map con_fields d.cons)

-- how many fields all constructors of all data types have together, so that none has more
abbrev pub fields_bound : List DataDecl → ℕ
fields_bound types = sum (map decl_fields types)

-- how many numbers and constructors stand in the rows of a problem, wanted and unwanted, at any depth
abbrev pub heads_of : Problem → ℕ
heads_of p = rows_head_count p.wanted + rows_head_count p.unwanted

-- the weight of a problem: it is more than that of each of its parts, since a part has a column less and no more
-- heads, or a head less and, for the column taken off, at most a constructor's fields as columns
abbrev pub weight : List DataDecl → Problem → ℕ
weight types p = heads_of p * (fields_bound types + 1) + length p.tys

-- the cost of a problem: a power with its weight as the exponent, and as the base two for each of its heads and two
-- more, so that two parts for each head cost less together
unfoldable pub cost : List DataDecl → Problem → ℕ
cost types p = (2 * heads_of p + 2) ^ weight types p

-- what a part of a problem costs at most: the same power with an exponent one less; where the weight is 0, so is the
-- exponent
unfoldable pub part_cost : List DataDecl → Problem → ℕ
part_cost types p = (2 * heads_of p + 2) ^ (weight types p - 1)

-- Parts -------------------------------------------------------------------------------------------

-- problem c is a part of p, one step from it: its columns are types over the data types, each row that answers c
-- becomes one that answers p, and c costs no more than a part may
pub record IsPart (types : List DataDecl) (p c : Problem) : Type 0 where
  pub live : AreTypesIn types c.tys
  pub step : Step
  pub steps : c.steps ≡ p.steps ++ step ∷ []
  pub sound : (row : List Pat) → FoundIn types c row → FoundIn types p (row_for_parent step row)
  pub cheap : cost types c ≤ part_cost types p

-- what is left of p where its vectors, whose first column is of type ty and the others of ts, begin with the head:
-- None where there is no such vector that p asks for, and else a part; where the part has no answer, there is none
abbrev pub IsPartAt : List DataDecl → Ty → List Ty → Problem → Head → Option Problem → Type 0
IsPartAt types ty ts p h None = NoneBy types ty ts p h
IsPartAt types ty ts p h (Some c) = IsPart types p c × (NoneIn types c → NoneBy types ty ts p h)

-- a problem, with the specialised rows of its rows for a head with n fields in their place; the columns' types and the
-- steps stay. None where a wanted row has no specialised row
abbrev pub IsSpecialized : Head → ℕ → Problem → Option Problem → Type 0
IsSpecialized h n p None = length (special h n p.wanted) < length p.wanted
IsSpecialized h n p (Some c) =
    (c ≡ record { tys = p.tys; wanted = special h n p.wanted; unwanted = special h n p.unwanted; steps = p.steps })
    × (length p.wanted ≤ length (special h n p.wanted))

-- the problem that a search begins with, to which no step has led
abbrev pub root_of : List Ty → List (List Pat) → List (List Pat) → Problem
root_of tys wanted unwanted = record { tys = tys; wanted = wanted; unwanted = unwanted; steps = [] }
