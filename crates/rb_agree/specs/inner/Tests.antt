-- The tests on the ways to a leaf, way by way. A way leads from the root of a tree of splits to a leaf, by an arm or
-- the `else` of each split on it. A test is what a split asks of a leaf below it: to have the arm's literal at the
-- split's location, or, below the `else`, to exclude the literals of all arms. `why` is evidence: how a test fails.
use Rattle.std.specs.Prelude.{◌≡◌, ℕ, ◌<◌, ◌^◌, List, [], map, Bool, true, false, Option, Some, None}
use Rattle.std.specs.List.{flat_map}
use Rattle.rb_core.specs.declared.types.DataDecl.{DataDecl}
use Rattle.rb_core.specs.declared.layout_decl.Loc.{Loc}
use Rattle.rb_layout.specs.declared.layout.Layout.{Layout}
use Rattle.rb_layout.specs.declared.layout.Leaf.{Leaf}
use Rattle.rb_layout.specs.declared.layout.FlatTree.{FlatTree}
use Rattle.rb_layout.specs.declared.layout.FlatArm.{FlatArm}
use Rattle.rb_layout.specs.declared.evidence.Why.{Why}
use Rattle.rb_layout.specs.Splits.{Test, IsNone, Route, under_test, arm_routes, routes_of, routes_under}
use Rattle.rb_layout.specs.A7.{FailsTest, MeetsTest}
use Rattle.rb_agree.specs.declared.tests.Below.{Below}
use Rattle.rb_agree.specs.declared.tests.Below.TheVariants.{Absent, Passes, Fails}
use Rattle.rb_agree.specs.Lists.{SomeOf}
use Rattle.rb_agree.specs.inner.Lists.{EachOf}

-- the ways to leaves through these arms of a split, each behind the test for its arm's literal
abbrev pub arms_routes : Loc → List FlatArm → List Route
arms_routes loc arms = flat_map (λ (a : FlatArm). arm_routes loc (routes_under a)) arms

-- the ways to leaves through the `else` of a split, if there is one, each behind the test that none of the literals
-- is there
abbrev pub other_routes : Loc → List ℕ → Option FlatTree → List Route
other_routes loc literals None = []
other_routes loc literals (Some tree) = map (under_test (IsNone loc literals)) (routes_of tree)

-- what is known of a leaf where no test fails: that it passes, if it stands there, or else that it is absent
abbrev pub status_of : Bool → Below
status_of true = Passes
status_of false = Absent

-- what is known of a leaf in two trees together; a test that fails in the first comes before one in the second
abbrev pub both : Below → Below → Below
both Absent b = b
both (Fails why) b = Fails why
both Passes Absent = Passes
both Passes Passes = Passes
both Passes (Fails why) = Fails why

module _ (types : List DataDecl) (layouts : List Layout) (leaf : Leaf) where
  -- what is known of a leaf behind test t, by what is known of it below: it is asked the test only where it passes
  -- below
  abbrev pub IsAfter : Test → Below → Below → Type 0
  IsAfter t Absent b = b ≡ Absent
  IsAfter t (Fails why) b = b ≡ Fails why
  IsAfter t Passes Absent = ⊥
  IsAfter t Passes Passes = MeetsTest types layouts leaf t
  IsAfter t Passes (Fails why) = FailsTest types layouts leaf t why

module _ (types : List DataDecl) (layouts : List Layout) (leaf : Leaf) (n : ℕ) where
  -- a way leads to leaf n
  abbrev pub LeadsToLeaf : Route → Type 0
  LeadsToLeaf r = r.leaf ≡ n

  -- a way does not lead to leaf n
  abbrev pub Misses : Route → Type 0
  Misses r = LeadsToLeaf r → ⊥

  -- leaf n passes each test on a way, if that leads to it
  abbrev pub PassesRoute : Route → Type 0
  PassesRoute r = LeadsToLeaf r → EachOf (MeetsTest types layouts leaf) r.tests

  -- a way leads to leaf n, which fails a test on it as `why` says
  abbrev pub FailsRoute : Why → Route → Type 0
  FailsRoute why r = LeadsToLeaf r × SomeOf (λ (t : Test). FailsTest types layouts leaf t why) r.tests

  -- what is known of the leaf on these ways: none leads to it; or one does, and it passes the tests on each
  -- that does; or it fails one so
  abbrev pub IsBelow : List Route → Below → Type 0
  IsBelow routes Absent = EachOf Misses routes
  IsBelow routes Passes = SomeOf LeadsToLeaf routes × EachOf PassesRoute routes
  IsBelow routes (Fails why) = SomeOf (FailsRoute why) routes

-- a number is given, the first argument, and the literal is another one of at most so many bits; false where none is
-- given
abbrev pub IsAnother : Option ℕ → ℕ → ℕ → Type 0
IsAnother None bits literal = ⊥
IsAnother (Some number) bits literal = (number ≡ literal → ⊥) × (literal < 2 ^ bits)
