-- Decision trees: what a tree takes of a value, its size and its ways, and the tree of a match. A head is the number
-- or the constructor with which a pattern or a value begins. A position is a list of field numbers from the root of a
-- value.
use Rattle.std.specs.Prelude.{ℕ, zero, suc, ◌+◌, List, [], ◌∷◌, ◌++◌, map, length, sum, if◌then◌else◌, Option, Some, None, unwrap_or}
use Rattle.std.specs.List.{flat_map}
use Rattle.rb_core.specs.declared.value.Value.{Value, out-Value}
use Rattle.rb_core.specs.declared.value.Value.TheOpen.{Value-F}
use Rattle.rb_core.specs.declared.types.Ty.{Ty}
use Rattle.rb_core.specs.declared.types.DataDecl.{DataDecl}
use Rattle.rb_core.specs.declared.pattern.Pat.{Pat}
use Rattle.rb_core.specs.Values.{part_at}
use Rattle.rb_matrix.specs.declared.matrix.Head.{Head}
use Rattle.rb_matrix.specs.Heads.{layer_begins}
use Rattle.rb_matrix.specs.Counts.{rows_head_count}
use Rattle.rb_decide.specs.declared.clause_matrix.Column.{Column}
use Rattle.rb_decide.specs.declared.clause_matrix.Row.{Row}
use Rattle.rb_decide.specs.declared.decision_tree.Tree.{Tree, Test, Clause}
use Rattle.rb_decide.specs.declared.decision_tree.Tree.TheOpen as T
use Rattle.rb_decide.specs.declared.decision_tree.Tree.TheOpen.{Tree-F}
use Rattle.rb_decide.specs.declared.decision_tree.Tree.TheFolds.{fold-Tree}
use Rattle.rb_decide.specs.declared.decision_tree.TreeArm.{TreeArm, TreeArm-F}
use Rattle.rb_decide.specs.ClauseMatrices.{match_rows, match_column, first_test, to_front, row_to_front, column_heads, is_complete, special_rows, default_rows, field_types, field_columns}

-- What a tree takes ---------------------------------------------------------------------------------

-- what is taken of each value: the number of a clause, or none
abbrev pub Taking : Type 0
Taking = Value → Option ℕ

-- what the branch for values that no arm takes makes of value v; none where there is no such branch
abbrev pub take_other : Option Taking → Taking
take_other None v = None
take_other (Some t) v = t v

-- what is taken of v, where `tested` stands at the tested position: by the first arm whose head that begins with, or
-- else by the branch for values that no arm takes
abbrev pub take_arm : List (Head × Taking) → Option Taking → Value-F Value → Taking
take_arm [] other tested v = take_other other v
take_arm (a ∷ arms) other tested v = if layer_begins a.0 tested then a.1 v else take_arm arms other tested v

-- what a test takes of v, where this stands at the position that it tests; none where v has no such position
abbrev pub take_at : List (Head × Taking) → Option Taking → Option Value → Taking
take_at arms other None v = None
take_at arms other (Some w) v = take_arm arms other (out-Value w) v

-- what a node takes, from what its branches take
abbrev pub taken_step : Tree-F Taking (Head × Taking) → Taking
taken_step (T.Test position arms other) v = take_at arms other (part_at v position) v
taken_step (T.Clause k) v = Some k

-- an arm by its head and what its branch takes
abbrev pub taken_arm_step : TreeArm-F Taking (Head × Taking) → Head × Taking
taken_arm_step a = (a.head, a.under)

-- the clause that a tree takes of a value
abbrev pub clause_taken : Tree → Taking
clause_taken = fold-Tree Taking (Head × Taking) taken_step taken_arm_step

-- Size ----------------------------------------------------------------------------------------------

-- the size of a node, from the sizes of its branches: one more than they have together; a clause has size 1
abbrev pub size_step : Tree-F ℕ ℕ → ℕ
size_step (T.Test position sizes other) = 1 + sum sizes + unwrap_or other 0
size_step (T.Clause k) = 1

-- the size that an arm adds to that of its node: the size of the tree below it
abbrev pub arm_size_step : TreeArm-F ℕ ℕ → ℕ
arm_size_step a = a.under

-- the size of a tree: how many nodes it has, clauses among them
abbrev pub size : Tree → ℕ
size = fold-Tree ℕ ℕ size_step arm_size_step

-- Ways ----------------------------------------------------------------------------------------------

-- a way: the positions that are tested from the root of a tree to a clause, one after another
abbrev pub Way : Type 0
Way = List (List ℕ)

-- the ways from a node to clauses, from those of its branches: the node's position stands before each; a clause has
-- one way, without a test
abbrev pub ways_step : Tree-F (List Way) (List Way) → List Way
ways_step (T.Test position ways other) = map (λ way. position ∷ way) (flat_map (λ ws. ws) ways ++ unwrap_or other [])
ways_step (T.Clause k) = [] ∷ []

-- the ways that an arm adds to those of its node: the ways of the tree below it
abbrev pub arm_ways_step : TreeArm-F (List Way) (List Way) → List Way
arm_ways_step a = a.under

-- the positions that are tested one after another, on each way from the root to a clause
abbrev pub ways : Tree → List Way
ways = fold-Tree (List Way) (List Way) ways_step arm_ways_step

-- The tree of a matrix ------------------------------------------------------------------------------

-- how the tree of a smaller matrix is made of its columns and its rows
abbrev pub Subtree : Type 0
Subtree = List Column → List Row → Tree

-- the arms of a test of column c: for each head the tree of its specialised matrix S, whose columns are the head's
-- fields and then cs
abbrev pub arms_of : List DataDecl → Subtree → Column → List Column → List Row → List Head → List TreeArm
arms_of types sub c cs rows [] = []
arms_of types sub c cs rows (h ∷ hs) =
    let fields = field_types types c.ty h in
    record { head = h; under = sub (field_columns c.position 0 fields ++ cs) (special_rows h (length fields) rows) }
    ∷ arms_of types sub c cs rows hs

-- the branch of a test of column c for values that no arm takes, by the default matrix D over the columns cs; none
-- where the heads in column c are a complete signature
abbrev pub other_of : List DataDecl → Subtree → Column → List Column → List Row → Option Tree
other_of types sub c cs rows =
    if is_complete types c.ty (column_heads rows) then None else Some (sub cs (default_rows rows))

-- the test of the first column of a matrix, in which some row has a head; clause 0 where there is no column
abbrev pub test_of : List DataDecl → Subtree → List Column → List Row → Tree
test_of types sub [] rows = Clause 0
test_of types sub (c ∷ cs) rows =
    Test c.position (arms_of types sub c cs rows (column_heads rows)) (other_of types sub c cs rows)

-- clause k, where no column is given to be tested; else the test of column i, brought to the front of columns and
-- rows
abbrev pub tree_at : List DataDecl → Subtree → List Column → List Row → ℕ → Option ℕ → Tree
tree_at types sub cols rows k None = Clause k
tree_at types sub cols rows k (Some i) = test_of types sub (to_front i cols) (map (row_to_front i) rows)

-- the tree of a matrix, where `sub` makes those of smaller ones; clause 0 where it has no rows and so matches
-- nothing, as never comes of an exhaustive match
abbrev pub tree_step : List DataDecl → Subtree → Subtree
tree_step types sub cols [] = Clause 0
tree_step types sub cols (r ∷ rs) = tree_at types sub cols (r ∷ rs) r.clause (first_test r.pats)

-- the tree of a matrix by n steps, enough where it has at most n heads
abbrev pub tree_within : List DataDecl → ℕ → Subtree
tree_within types zero cols rows = tree_step types (λ cs rs. Clause 0) cols rows
tree_within types (suc n) cols rows = tree_step types (tree_within types n) cols rows

-- the patterns of a row
abbrev pub row_pats : Row → List Pat
row_pats r = r.pats

-- how many numbers and constructors stand in the patterns of these rows, inner ones among them
abbrev pub count_of_heads : List Row → ℕ
count_of_heads rows = rows_head_count (map row_pats rows)

-- The tree of a matrix. Each branch has fewer heads than its matrix, so that no way has more tests than the matrix
-- has heads.
abbrev pub tree_of : List DataDecl → List Column → List Row → Tree
tree_of types cols rows = tree_within types (count_of_heads rows) cols rows

-- the tree of a match on type ty by patterns ps: that of the matrix of its clauses, the first of which is clause 0
abbrev pub match_tree : List DataDecl → Ty → List Pat → Tree
match_tree types ty ps = tree_of types (match_column ty ∷ []) (match_rows 0 ps)
