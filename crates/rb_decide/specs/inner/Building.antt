-- What the steps of building a tree give, where `old` nodes may be built before a step and `new` ones after it. The
-- tree is that of a matrix: its rows are patterns with their clauses, over columns, and a head is the number or the
-- constructor with which a pattern begins.
use Rattle.std.specs.Prelude.{◌≡◌, ◌+◌, ◌<◌, ◌≤◌, ℕ, suc, List, map, sum, Option, Some, None}
use Rattle.rb_matrix.specs.declared.matrix.Head.{Head}
use Rattle.rb_decide.specs.declared.clause_matrix.Column.{Column}
use Rattle.rb_decide.specs.declared.clause_matrix.Row.{Row}
use Rattle.rb_decide.specs.declared.decision_tree.Tree.{Tree}
use Rattle.rb_decide.specs.declared.decision_tree.TreeArm.{TreeArm}
use Rattle.rb_decide.specs.Trees.{size, count_of_heads, tree_within, test_of, arms_of}
use Rattle.rb_core.specs.declared.types.Ty.{Ty}
use Rattle.rb_core.specs.declared.types.DataDecl.{DataDecl}

-- the type of the values in a column
abbrev pub column_ty : Column → Ty
column_ty c = c.ty

-- building tree t gives it and takes its size off the nodes that may be built, `old` before and `new` after it; or it
-- gives none, `old` being too few for its size
abbrev pub IsBuilt : Tree → ℕ → ℕ → Option Tree → Type 0
IsBuilt t old new None = old < size t
IsBuilt t old new (Some x) = (x ≡ t) × (size t + new ≡ old)

-- the tree below an arm
abbrev pub arm_tree : TreeArm → Tree
arm_tree a = a.under

-- the sizes of the trees below arms, taken together
abbrev pub arms_size : List TreeArm → ℕ
arms_size arms = sum (map (λ a. size (arm_tree a)) arms)

-- building arms ts gives them and takes the sizes of their trees off `old`, which leaves `new`; or it gives none,
-- `old` being too few for them
abbrev pub AreBuilt : List TreeArm → ℕ → ℕ → Option (List TreeArm) → Type 0
AreBuilt ts old new None = old < arms_size ts
AreBuilt ts old new (Some xs) = (xs ≡ ts) × (arms_size ts + new ≡ old)

-- the tree of a matrix is built, by any number n of steps that is no less than its heads, or `old` nodes are too few
abbrev pub IsTreeBuilt : List DataDecl → List Column → List Row → ℕ → ℕ → Option Tree → Type 0
IsTreeBuilt types cols rows old new r =
    (n : ℕ) → count_of_heads rows ≤ n → IsBuilt (tree_within types n cols rows) old new r

-- the test of the first column of a matrix is built, with branches by n steps, where the matrix has at most n + 1
-- heads; or `old` nodes are too few
abbrev pub IsTestBuilt : List DataDecl → List Column → List Row → ℕ → ℕ → Option Tree → Type 0
IsTestBuilt types cols rows old new r =
    (n : ℕ) → count_of_heads rows ≤ suc n → IsBuilt (test_of types (tree_within types n) cols rows) old new r

-- the arms of a test of column c are built, one for each head of hs, with branches by n steps, where the matrix has
-- at most n + 1 heads and its columns behind c are cs; or `old` nodes are too few
abbrev pub AreArmsBuilt : List DataDecl → Column → List Column → List Row → List Head → ℕ → ℕ → Option (List TreeArm)
    → Type 0
AreArmsBuilt types c cs rows hs old new r =
    (n : ℕ) → count_of_heads rows ≤ suc n → AreBuilt (arms_of types (tree_within types n) c cs rows hs) old new r
