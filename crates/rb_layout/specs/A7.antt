-- A7: a split can tell the leaves below it apart. Its location resolves in all of them; those below a literal have it
-- as the number known there, and those below `else` exclude all literals. A number is known where all bits are
-- constant, and excluded where the bits there are never that number. A test is what one split asks of a leaf below it:
-- to be below one of its literals, or below its `else`.
use Rattle.std.specs.Prelude.{◌≡◌, ℕ, List, None, Some, slice_get}
use Rattle.rb_core.specs.declared.types.DataDecl.{DataDecl}
use Rattle.rb_core.specs.declared.layout_decl.Loc.{Loc}
use Rattle.rb_layout.specs.declared.layout.Layout.{Layout}
use Rattle.rb_layout.specs.declared.layout.Leaf.{Leaf}
use Rattle.rb_layout.specs.declared.layout.FlatTree.{FlatTree}
use Rattle.rb_layout.specs.declared.evidence.Why.{Why}
use Rattle.rb_layout.specs.declared.evidence.Why.TheVariants.{Unresolved, NotKnown, NotExcluded}
use Rattle.rb_layout.specs.Locations.{Reached, reached_at, number_known}
use Rattle.rb_layout.specs.Excluded.{Excludes}
use Rattle.rb_layout.specs.Splits.{Test, Is, IsNone, Route, routes_of}
use Rattle.rb_layout.specs.Each.{EachLeaf}

-- the location resolves in the leaf: each of its steps finds its pointer and its word, and its last range lies in its
-- word
abbrev pub Resolves : Leaf → Loc → Type 0
Resolves leaf loc = (x : Reached) × (reached_at leaf loc ≡ Some x)

-- c is among the literals
abbrev pub IsLiteral : List ℕ → ℕ → Type 0
IsLiteral literals c = (k : ℕ) × (slice_get literals k ≡ Some c)

-- A leaf passes a test: the split's location resolves in it; below a literal, that number is known there; below
-- `else`, each literal is excluded there, and without literals nothing but the resolving is asked.
abbrev pub MeetsTest : List DataDecl → List Layout → Leaf → Test → Type 0
MeetsTest types layouts leaf (Is loc c) = Resolves leaf loc × (number_known leaf loc ≡ Some c)
MeetsTest types layouts leaf (IsNone loc literals) =
    Resolves leaf loc × ((c : ℕ) → IsLiteral literals c → Excludes types layouts leaf loc c)

-- the test is one of those on a way to leaf n in the tree of splits
pub record IsTestAbove (tree : FlatTree) (n : ℕ) (test : Test) : Type 0 where
  pub route_number : ℕ
  pub route : Route
  pub number : ℕ
  pub is_route : slice_get (routes_of tree) route_number ≡ Some route
  pub leads : route.leaf ≡ n
  pub is_test : slice_get route.tests number ≡ Some test

-- a leaf, which has number n, passes each test on a way to it in the tree of splits; where the tree is the leaf
-- alone, there are none
abbrev pub MeetsAll : List DataDecl → List Layout → FlatTree → ℕ → Leaf → Type 0
MeetsAll types layouts tree n leaf = (test : Test) → IsTestAbove tree n test → MeetsTest types layouts leaf test

-- the rule: each leaf of each layout passes all tests above it
abbrev pub A7 : List DataDecl → List Layout → Type 0
A7 types layouts = EachLeaf layouts (λ t layout n leaf. MeetsAll types layouts layout.tree n leaf)

-- How a leaf fails a test, by the evidence, which names the split's location: it does not resolve; below a literal,
-- that number is not known there; or below `else`, one of the literals is not excluded there. No other evidence fails
-- the test.
abbrev pub FailsTest : List DataDecl → List Layout → Leaf → Test → Why → Type 0
FailsTest types layouts leaf (Is at c) (Unresolved loc) = (loc ≡ at) × (reached_at leaf at ≡ None)
FailsTest types layouts leaf (Is at c) (NotKnown loc d) = (loc ≡ at) × (d ≡ c) × (number_known leaf at ≡ Some c → ⊥)
FailsTest types layouts leaf (IsNone at literals) (Unresolved loc) = (loc ≡ at) × (reached_at leaf at ≡ None)
FailsTest types layouts leaf (IsNone at literals) (NotExcluded loc c) =
    (loc ≡ at) × IsLiteral literals c × (Excludes types layouts leaf at c → ⊥)
FailsTest types layouts leaf test why = ⊥

-- how leaf n of a layout with this tree of splits fails the rule: the evidence fails a test on a way to it
abbrev pub FailsTests : List DataDecl → List Layout → FlatTree → ℕ → Leaf → Why → Type 0
FailsTests types layouts tree n leaf why =
    (test : Test) × IsTestAbove tree n test × FailsTest types layouts leaf test why
