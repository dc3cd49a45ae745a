-- What a walk over a tree of splits finds: which leaves may fail a test on a way to them. A leaf whose mark is off
-- passes. A split asks leaves below it a test: to have an arm's literal at its location or, below its `else`, to
-- exclude those of all arms. A way leads from the root of the tree to a leaf. A span is the leaves between two
-- numbers. Marks have one truth value for each leaf, by its number; a mark is on where it is true.
use Rattle.std.specs.Prelude.{◌≡◌, ℕ, ◌<◌, ◌≤◌, List, Bool, false, Option, Some, None, slice_get}
use Rattle.rb_core.specs.declared.types.DataDecl.{DataDecl}
use Rattle.rb_core.specs.declared.layout_decl.Loc.{Loc}
use Rattle.rb_layout.specs.declared.layout.Layout.{Layout}
use Rattle.rb_layout.specs.declared.layout.Leaf.{Leaf}
use Rattle.rb_layout.specs.declared.layout.FlatArm.{FlatArm}
use Rattle.rb_layout.specs.Splits.{Test, Is, IsNone, Route}
use Rattle.rb_layout.specs.A7.{MeetsTest, MeetsAll}
use Rattle.rb_agree.specs.declared.passing.Asking.{Asking}
use Rattle.rb_agree.specs.declared.passing.Span.{Span}
use Rattle.rb_agree.specs.Lists.{SomeOf}
use Rattle.rb_agree.specs.inner.Alike.{AreAlike}
use Rattle.rb_agree.specs.inner.Lists.{EachOf}
use Rattle.rb_agree.specs.inner.Splits.{literals_in}

-- what a split at a location asks, as a test: of leaves below an arm to have its literal, where one is given, and
-- else of those below its `else` to exclude the literals of all arms
abbrev pub test_at : Loc → List FlatArm → Option ℕ → Test
test_at loc arms (Some c) = Is loc c
test_at loc arms None = IsNone loc (literals_in arms)

-- what a split asks, as a test
abbrev pub test_of : Asking → Test
test_of a = test_at a.loc.now a.arms.now a.literal

-- leaf n has a mark, which is off
abbrev pub IsOff : List Bool → ℕ → Type 0
IsOff marks n = slice_get marks n ≡ Some false

-- from `old` to `new`, marks are put on, and none is put off
abbrev pub KeepsMarks : List Bool → List Bool → Type 0
KeepsMarks old new = (n : ℕ) → IsOff new n → IsOff old n

-- leaf n is one of a span
abbrev pub IsInSpan : Span → ℕ → Type 0
IsInSpan span n = (span.first ≤ n) × (n < span.end)

-- the span `whole` has all leaves of the other span
abbrev pub CoversSpan : Span → Span → Type 0
CoversSpan whole span = (whole.first ≤ span.first) × (span.end ≤ whole.end)

module _ (types : List DataDecl) (layouts : List Layout) (leaves : List Leaf) where
  -- leaf n meets the test where its mark is off
  abbrev pub MeetsWhereOff : List Bool → ℕ → Test → Type 0
  MeetsWhereOff marks n test =
      IsOff marks n → (leaf : Leaf) → slice_get leaves n ≡ Some leaf → MeetsTest types layouts leaf test

  -- the leaf with this number, if there is one, meets the test
  abbrev pub IsPrior : Test → ℕ → Type 0
  IsPrior test n = (leaf : Leaf) → slice_get leaves n ≡ Some leaf → MeetsTest types layouts leaf test

  -- leaf n was asked a test: marks were only put on, and where its mark is off still, it meets the test
  pub record IsAsked (test : Test) (n : ℕ) (old new : List Bool) : Type 0 where
    pub keeps : KeepsMarks old new
    pub meets : MeetsWhereOff new n test

  -- the leaves of a span were asked a test: marks were only put on, and those whose mark is off still meet the test
  pub record AreAsked (test : Test) (span : Span) (old new : List Bool) : Type 0 where
    pub keeps : KeepsMarks old new
    pub meet : (n : ℕ) → IsInSpan span n → MeetsWhereOff new n test

  -- these ways were walked: they lead to leaves of the span; marks were only put on, and a leaf whose mark is off
  -- still meets each test on a way to it
  pub record AreWalked (routes : List Route) (span : Span) (old new : List Bool) : Type 0 where
    pub among : EachOf (λ (r : Route). IsInSpan span r.leaf) routes
    pub keeps : KeepsMarks old new
    pub meet : EachOf (λ (r : Route). EachOf (MeetsWhereOff new r.leaf) r.tests) routes

-- the leaf with one of these numbers is alike, at a location, to this leaf
abbrev pub IsLike : List DataDecl → List Leaf → Leaf → Loc → List ℕ → Type 0
IsLike types leaves leaf loc priors =
    SomeOf (λ n. (one : Leaf) × (slice_get leaves n ≡ Some one) × AreAlike types one leaf loc) priors

-- each leaf of a layout whose mark is off passes the tests on each way to it
abbrev pub PassWhereOff : List DataDecl → List Layout → Layout → List Bool → Type 0
PassWhereOff types layouts layout marks =
    (n : ℕ) (leaf : Leaf) → IsOff marks n → slice_get layout.leaves n ≡ Some leaf
    → MeetsAll types layouts layout.tree n leaf
