-- Trees of splits: the splits in them, and the tests on the way to each leaf. A split looks at the bits at a location
-- of the words. It has arms, each with a literal and a tree for the words that have this number there, and it may
-- have an `else` with a tree for all other words. A step goes over one layer of a tree, for whose subtrees the
-- results are given; the whole tree is folded by it.
use Rattle.std.specs.Prelude.{ℕ, List, [], ◌∷◌, ◌++◌, map, Bool, Option, Some, None, is_some}
use Rattle.std.specs.List.{flat_map}
use Rattle.rb_core.specs.declared.layout_decl.Loc.{Loc}
use Rattle.rb_layout.specs.declared.layout.FlatTree.{FlatTree}
use Rattle.rb_layout.specs.declared.layout.FlatTree.TheOpen as T
use Rattle.rb_layout.specs.declared.layout.FlatTree.TheOpen.{FlatTree-F}
use Rattle.rb_layout.specs.declared.layout.FlatTree.TheFolds.{fold-FlatTree, fold-FlatArm}
use Rattle.rb_layout.specs.declared.layout.FlatArm.{FlatArm, FlatArm-F}

-- What a split asks of a leaf below it. `Is`, of a leaf in an arm: that the number at the location is the arm's
-- literal. `IsNone`, of a leaf in the `else`: that it is none of the literals of the arms.
pub data Test : Type 0 where
  Is : Loc → ℕ → Test
  IsNone : Loc → List ℕ → Test

-- a way to a leaf of a tree: the leaf's number, and the tests of the splits above it, the outermost first; no tests
-- where the leaf is the whole tree
pub record Route : Type 0 where
  pub leaf : ℕ
  pub tests : List Test

-- a way with one more test, outside of all others
abbrev pub under_test : Test → Route → Route
under_test test r = record { leaf = r.leaf; tests = test ∷ r.tests }

-- an arm: its literal, and what is computed of the tree below it
pub record Under (A : Type 0) : Type 0 where
  pub literal : ℕ
  pub of : A

-- the literals of arms, in their order
abbrev pub literals_of : {A : Type 0} → List (Under A) → List ℕ
literals_of arms = map (λ arm. arm.literal) arms

-- the ways into an arm of a split at this location: those of the tree below it, each behind the test for the arm's
-- literal
abbrev pub arm_routes : Loc → Under (List Route) → List Route
arm_routes loc arm = map (under_test (Is loc arm.literal)) arm.of

-- the ways into the `else` of a split at this location, whose arms have these literals: those of the tree below it,
-- each behind the test for none of the literals; no ways where there is no `else`
abbrev pub else_routes : Loc → List ℕ → Option (List Route) → List Route
else_routes loc literals None = []
else_routes loc literals (Some routes) = map (under_test (IsNone loc literals)) routes

-- The ways through one layer of a tree. A split has those of its arms in turn, and then those of its `else`. A leaf
-- has one, without tests.
abbrev pub routes_step : FlatTree-F (List Route) (Under (List Route)) → List Route
routes_step (T.Split loc arms other) = flat_map (arm_routes loc) arms ++ else_routes loc (literals_of arms) other
routes_step (T.Leaf n) = record { leaf = n; tests = [] } ∷ []

-- one layer of an arm: its literal, with the ways of the tree below it, which are given
abbrev pub routes_arm : FlatArm-F (List Route) (Under (List Route)) → Under (List Route)
routes_arm arm = record { literal = arm.literal; of = arm.under }

-- the ways to the leaves of a tree, from left to right: one for each place where a leaf stands
abbrev pub routes_of : FlatTree → List Route
routes_of = fold-FlatTree (List Route) (Under (List Route)) routes_step routes_arm

-- an arm with the ways of the tree below it, which begin inside the arm: the test of its own split is not in them
abbrev pub routes_under : FlatArm → Under (List Route)
routes_under = fold-FlatArm (List Route) (Under (List Route)) routes_step routes_arm

-- a split: its location, the literals of its arms in their order, and in `other` whether it has an `else`
pub record SplitAt : Type 0 where
  pub loc : Loc
  pub literals : List ℕ
  pub other : Bool

-- the splits in an `else`, and none where there is no `else`
abbrev pub splits_or_none : Option (List SplitAt) → List SplitAt
splits_or_none None = []
splits_or_none (Some splits) = splits

-- the splits of one layer of a tree: a split itself, and then those in its arms and those in its `else`; a leaf has
-- none
abbrev pub splits_step : FlatTree-F (List SplitAt) (Under (List SplitAt)) → List SplitAt
splits_step (T.Split loc arms other) =
    record { loc = loc; literals = literals_of arms; other = is_some other }
    ∷ (flat_map (λ arm. arm.of) arms ++ splits_or_none other)
splits_step (T.Leaf n) = []

-- one layer of an arm: its literal, with the splits of the tree below it, which are given
abbrev pub splits_arm : FlatArm-F (List SplitAt) (Under (List SplitAt)) → Under (List SplitAt)
splits_arm arm = record { literal = arm.literal; of = arm.under }

-- the splits of a tree, outer ones before inner ones, from left to right; none where the tree is a leaf
abbrev pub splits_of : FlatTree → List SplitAt
splits_of = fold-FlatTree (List SplitAt) (Under (List SplitAt)) splits_step splits_arm

-- an arm's literal, with the splits of the tree below it, outer ones before inner ones; none where that is a leaf
abbrev pub splits_under : FlatArm → Under (List SplitAt)
splits_under = fold-FlatArm (List SplitAt) (Under (List SplitAt)) splits_step splits_arm
