-- What is left of a search: a list of problems still to be solved, each whole or only for the vectors that begin with
-- one of some heads, whose parts are its branches. A problem asks for a vector of values of some types that all
-- wanted rows match and no unwanted one; a part of it asks this of some of its vectors, with the first value taken
-- apart or taken off. The root is the problem that the search began with. Where nothing in what is left has an
-- answer, neither has what it came from; a row for a problem in it becomes one for the root.
use Rattle.std.specs.Prelude.{◌≡◌, ℕ, ◌+◌, ◌*◌, ◌<◌, ◌≤◌, List, [], ◌∷◌, length, true, false, Option, Some, None}
use Rattle.rb_core.specs.declared.value.Value.{Value, out-Value}
use Rattle.rb_core.specs.declared.types.DataDecl.{DataDecl}
use Rattle.rb_core.specs.declared.pattern.Pat.{Pat}
use Rattle.rb_matrix.specs.declared.problem.Problem.{Problem}
use Rattle.rb_matrix.specs.declared.problem.Branches.{Branches}
use Rattle.rb_matrix.specs.declared.problem.Left.{Left}
use Rattle.rb_matrix.specs.declared.problem.Left.TheVariants.{Whole, ByHead}
use Rattle.rb_matrix.specs.declared.problem.Outcome.{Outcome}
use Rattle.rb_matrix.specs.declared.problem.Outcome.TheVariants.{Solved, Split}
use Rattle.rb_matrix.specs.Heads.{any_begins, some_head}
use Rattle.rb_matrix.specs.FirstHead.{first_head}
use Rattle.rb_matrix.specs.Search.{AreTypesIn, useful_by}
use Rattle.rb_matrix.specs.inner.Groups.{AreGrouped}
use Rattle.rb_matrix.specs.inner.Problems.{row_for_root, with_column, FoundIn, NoneIn, cost, part_cost}

-- the problem whose branches these are: it stands in them without its first column's type
abbrev pub parent : Branches → Problem
parent b = with_column b.ty b.behind

-- the problem of what is left: it is whole, or the parent of branches
abbrev pub problem_of : Left → Problem
problem_of (Whole p) = p
problem_of (ByHead b) = parent b

-- the part that there may be, as what is left: nothing for None
abbrev pub wholes : Option Problem → List Left
wholes None = []
wholes (Some c) = Whole c ∷ []

-- each column of a whole problem, and of branches each behind the first, is of a type over the data types; branches
-- stand only where some row begins with a head, and their unwanted rows are grouped by the heads that they begin with
abbrev pub IsReady : List DataDecl → Left → Type 0
IsReady types (Whole p) = AreTypesIn types p.tys
IsReady types (ByHead b) =
    AreTypesIn types b.behind.tys
    × (1 ≤ some_head (first_head b.behind.wanted) + some_head (first_head b.behind.unwanted))
    × AreGrouped b.behind.unwanted b.groups

-- Nothing is found --------------------------------------------------------------------------------

-- there is no vector that the parent asks for and that begins with one of the heads of these branches
abbrev pub NoneByHead : List DataDecl → Branches → Type 0
NoneByHead types b =
    (v : Value) (vs : List Value) → any_begins b.heads (out-Value v) ≡ true
    → useful_by types (parent b).tys b.behind.wanted b.behind.unwanted (v ∷ vs) ≡ false

-- what is left has no answer: no vector of the whole problem, or none that begins with one of the heads
abbrev pub NoneOf : List DataDecl → Left → Type 0
NoneOf types (Whole p) = NoneIn types p
NoneOf types (ByHead b) = NoneByHead types b

-- nothing in a list of what is left has an answer; so it is where nothing is left
abbrev pub AllNone : List DataDecl → List Left → Type 0
AllNone types [] = Unit {0}
AllNone types (l ∷ ls) = NoneOf types l × AllNone types ls

-- How much is left --------------------------------------------------------------------------------

-- the cost of what is left: that of a whole problem, and for branches twice the most that a part costs, for each
-- head, and 1 more, so that branches cost more than the part of one head and the branches of the others
abbrev pub left_cost : List DataDecl → Left → ℕ
left_cost types (Whole p) = cost types p
left_cost types (ByHead b) = length b.heads * (2 * part_cost types (parent b)) + 1

-- the costs of a list of what is left, together; 0 where nothing is left
abbrev pub costs : List DataDecl → List Left → ℕ
costs types [] = 0
costs types (l ∷ ls) = left_cost types l + costs types ls

-- Below a root ------------------------------------------------------------------------------------

-- each row that answers problem p becomes, by p's steps, one that answers the root
abbrev pub LeadsTo : List DataDecl → Problem → Problem → Type 0
LeadsTo types root p = (row : List Pat) → FoundIn types p row → FoundIn types root (row_for_root p.steps row)

-- something left is of a search that began with the root: its columns are types, and rows for it become rows for
-- the root
pub record IsWithin (types : List DataDecl) (root : Problem) (l : Left) : Type 0 where
  pub ready : IsReady types l
  pub sound : LeadsTo types root (problem_of l)

-- everything in a list of what is left is of a search that began with the root
abbrev pub AreWithin : List DataDecl → Problem → List Left → Type 0
AreWithin types root [] = Unit {0}
AreWithin types root (l ∷ ls) = IsWithin types root l × AreWithin types root ls

-- a list of what is left answers for the root: where nothing in it has an answer, the root has none, and rows for
-- what is in it become rows for the root
pub record IsWorking (types : List DataDecl) (root : Problem) (ls : List Left) : Type 0 where
  pub none : AllNone types ls → NoneIn types root
  pub within : AreWithin types root ls

-- What a step answers -----------------------------------------------------------------------------

-- a list of what is left now answers for what was left: where nothing in it has an answer, neither has that, it is
-- of the same search, and it costs less
pub record IsSplit (types : List DataDecl) (l : Left) (ls : List Left) : Type 0 where
  pub none : AllNone types ls → NoneOf types l
  pub within : (root : Problem) → IsWithin types root l → AreWithin types root ls
  pub fewer : costs types ls < left_cost types l

-- what becomes of what was left: it is solved where the empty row answers its problem, and its steps are given; or
-- else a list answers for it
abbrev pub IsOutcome : List DataDecl → Left → Outcome → Type 0
IsOutcome types l (Solved steps) = FoundIn types (problem_of l) [] × (steps ≡ (problem_of l).steps)
IsOutcome types l (Split ls) = IsSplit types l ls.items
