-- Chains: the tests of one pattern in pre-order, each with one arm, and clause 1 for all other values. A head is the
-- number or the constructor with which a pattern begins. A column is a position, a list of field numbers from the
-- root of the value that is matched, with the type of what stands there. `types` are the types of the program.
use Rattle.std.specs.Prelude.{◌≡◌, ℕ, ◌+◌, ◌<◌, ◌≤◌, ◌==◌, List, [], ◌∷◌, length, map, if◌then◌else◌, Some, None, slice_get}
use Rattle.rb_core.specs.declared.types.Ty.{Ty}
use Rattle.rb_core.specs.declared.types.DataDecl.{DataDecl}
use Rattle.rb_core.specs.declared.pattern.Pat.{Pat}
use Rattle.rb_core.specs.declared.pattern.Pat.TheOpen as P
use Rattle.rb_core.specs.declared.pattern.Pat.TheOpen.{Pat-F}
use Rattle.rb_core.specs.declared.pattern.Pat.TheFolds.{fold-Pat}
use Rattle.rb_matrix.specs.Counts.{head_count, row_head_count}
use Rattle.rb_matrix.specs.declared.matrix.Head.{Head}
use Rattle.rb_matrix.specs.declared.matrix.Head.TheVariants as H
use Rattle.rb_decide.specs.declared.clause_matrix.Column.{Column}
use Rattle.rb_decide.specs.declared.decision_tree.Tree.{Tree, Test, Clause}
use Rattle.rb_decide.specs.declared.decision_graph.GraphNode.{GraphNode}
use Rattle.rb_decide.specs.declared.decision_graph.GraphNode.TheVariants as G
use Rattle.rb_decide.specs.ClauseMatrices.{is_complete, field_types, field_columns}
use Rattle.rb_decide.specs.Graphs.{node_trees, LinksAreLower}

-- The chain -----------------------------------------------------------------------------------------

-- the tests of a pattern, as a function: the column where the pattern stands, and the tree for the values that it
-- matches, go to the tree that begins with the tests
abbrev pub Chain : Type 0
Chain = Column → Tree → Tree

-- a test of head h at column c, whose one arm leads to tree t; other values, if there may be any, are left to clause
-- 1
abbrev pub one_test : List DataDecl → Head → Chain
one_test types h c t =
    Test c.position (record { head = h; under = t } ∷ [])
    (if is_complete types c.ty (h ∷ []) then None else Some (Clause 1))

-- the tests of patterns at columns, put before tree t, those of the first pattern first; patterns without a column
-- have none
abbrev pub chain_row : List Chain → List Column → Tree → Tree
chain_row [] cs t = t
chain_row (f ∷ fs) [] t = t
chain_row (f ∷ fs) (c ∷ cs) t = f c (chain_row fs cs t)

-- the tests of the patterns in the fields of what stands at a position, of types tys, put before tree t; where there
-- are not as many patterns as fields, so that nothing matches, clause 1 alone, and t is dropped
abbrev pub chain_fields : List Chain → List ℕ → List Ty → Tree → Tree
chain_fields fs position tys t =
    if length fs == length tys then chain_row fs (field_columns position 0 tys) t else Clause 1

-- the tests of a pattern, put before tree t: first that of its own head, if it has one, then those of its fields.
-- Where a constructor has not as many patterns as fields, clause 1 stands behind its test, and t is dropped
abbrev pub chain_step : List DataDecl → Pat-F Chain → Chain
chain_step types (P.Wild at) c t = t
chain_step types (P.Var at x) c t = t
chain_step types (P.Num at n) c t = one_test types (H.Num n) c t
chain_step types (P.Con at con fs) c t =
    one_test types (H.Con con) c (chain_fields fs c.position (field_types types c.ty (H.Con con)) t)

-- the tests of a pattern in pre-order, put before the tree of the values that it matches; a constructor with another
-- number of patterns than fields matches none, and clause 1 stands behind its test instead
abbrev pub chain : List DataDecl → Pat → Chain
chain types = fold-Pat Chain (chain_step types)

-- Its nodes -----------------------------------------------------------------------------------------

-- nodes whose links are lower numbers than their own, and of which node 0 is clause 1
pub record AreChained (nodes : List GraphNode) : Type 0 where
  pub lower : LinksAreLower nodes
  pub others : slice_get nodes 0 ≡ Some (G.Clause 1)

-- a step made the nodes `new` of `old`, at most `most` more; where node `under` had a tree, node i has the tree that
-- `put` makes of it
pub record IsChained (put : Tree → Tree) (most : ℕ) (old : List GraphNode) (under : ℕ) (new : List GraphNode)
    (i : ℕ) : Type 0 where
  pub fine : AreChained new
  pub within : i < length new
  pub few : length new ≤ length old + most
  pub there : (t : Tree) → slice_get (node_trees old) under ≡ Some t → slice_get (node_trees new) i ≡ Some (put t)

-- a step put a test of head h at column c before a node, by at most one more node; the rest is as in `IsChained`
abbrev pub IsTest : List DataDecl → Head → Column → List GraphNode → ℕ → List GraphNode → ℕ → Type 0
IsTest types h c = IsChained (one_test types h c) 1

-- a step put the tests of pattern p at column c before a node, by at most a node for each head of p; the rest is as
-- in `IsChained`
abbrev pub IsPatternChain : List DataDecl → Pat → Column → List GraphNode → ℕ → List GraphNode → ℕ → Type 0
IsPatternChain types p c = IsChained (chain types p c) (head_count p)

-- a step put the tests of patterns ps, in fields of what stands at a position, before a node, by at most a node for
-- each of their heads; the rest is as in `IsChained`
abbrev pub IsFieldChain : List DataDecl → List Pat → List ℕ → List Ty → List GraphNode → ℕ → List GraphNode → ℕ → Type 0
IsFieldChain types ps position fields =
    IsChained (chain_fields (map (chain types) ps) position fields) (row_head_count ps)
