-- Splits that are read on the way to one leaf. A split looks at the number at a location of root words, which may
-- lead by pointers to a block, and goes on by the arm with this literal, or by `else`. A route is a leaf, by its
-- number, with the tests on the way to it: that the number is a literal, or none of the arms' literals.
use Rattle.std.specs.Prelude.{◌≡◌, ℕ, List, Some, slice_get}
use Rattle.rb_core.specs.declared.layout_decl.Loc.{Loc}
use Rattle.rb_core.specs.declared.layout_decl.Step.{Step}
use Rattle.rb_bytes.specs.Memory.{Memory, IsWidth}
use Rattle.rb_layout.specs.declared.layout.FlatTree.{FlatTree}
use Rattle.rb_layout.specs.Splits.{Test, Is, IsNone, Route, routes_of, splits_of}
use Rattle.rb_layout.specs.A7.{IsLiteral}
use Rattle.rb_rel.specs.Reading.{LiteralsDistinct, read_loc}

-- this number is read at a location, by loads of widths that a memory has
pub record ReadsNumber (ws : List ℕ) (m : Memory) (loc : Loc) (n : ℕ) : Type 0 where
  pub is_read : read_loc ws m loc ≡ Some n
  pub widths : (k : ℕ) (s : Step) → slice_get loc.steps k ≡ Some s → IsWidth s.width

-- a test passes on root words and a memory: the number at its location is the literal, or none of the literals
abbrev pub Passes : List ℕ → Memory → Test → Type 0
Passes ws m (Is loc c) = ReadsNumber ws m loc c
Passes ws m (IsNone loc literals) = (n : ℕ) × ReadsNumber ws m loc n × (IsLiteral literals n → ⊥)

-- the tests of some route of the tree to this leaf pass on root words and a memory; no split of the tree has two arms
-- of one literal
pub record RouteLeads (ws : List ℕ) (m : Memory) (tree : FlatTree) (leaf : ℕ) : Type 0 where
  pub distinct : LiteralsDistinct (splits_of tree)
  pub number : ℕ
  pub route : Route
  pub is_route : slice_get (routes_of tree) number ≡ Some route
  pub is_leaf : route.leaf ≡ leaf
  pub passes : (k : ℕ) (t : Test) → slice_get route.tests k ≡ Some t → Passes ws m t
