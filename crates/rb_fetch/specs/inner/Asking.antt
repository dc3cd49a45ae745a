-- What code that chooses the leaf of a construction begins with and asks. A leaf is one of the forms in which a layout
-- stores the values of a data type; its provenance is the pattern of these values. A place is a position below the
-- root, a path of field numbers, at which a provenance has a constructor. A look is code that finds the leaf of the
-- part there. `seen` is what is known of the construction: positions that need no look any more, and constructors that
-- stand in it. A sheet is a function's code so far. `agreed` is a program with layouts that agree with its types.
use Rattle.std.specs.Prelude.{◌≡◌, ℕ, List, Some, map, length}
use Rattle.rb_core.specs.declared.types.ConRef.{ConRef}
use Rattle.rb_core.specs.declared.pattern.Pat.{Pat}
use Rattle.rb_target.specs.Growth.{Grows}
use Rattle.rb_target.specs.Sheet.{Sheet}
use Rattle.rb_layout.specs.declared.agreed.LaidOut.{LaidOut}
use Rattle.rb_layout.specs.declared.layout.Leaf.{Leaf}
use Rattle.rb_layout.specs.Positions.{layout_of, leaves_of_layout}
use Rattle.rb_rel.specs.Switches.{heads_below, heads_of, inner_heads}
use Rattle.rb_fragment.specs.declared.held.Held.{Held}
use Rattle.rb_fragment.specs.Arms.{AreHoles, AreOfOneWay}
use Rattle.rb_compose.specs.declared.subvalue.Subvalue.{Subvalue}
use Rattle.rb_fetch.specs.declared.asking.Look.{Look}
use Rattle.rb_fetch.specs.declared.asking.Question.{Question}
use Rattle.rb_fetch.specs.declared.asking.Start.{Start}
use Rattle.rb_fetch.specs.declared.heads.Place.{Place}
use Rattle.rb_fetch.specs.declared.known.Learnt.{Learnt}
use Rattle.rb_fetch.specs.declared.known.Seen.{Seen}
use Rattle.rb_fetch.specs.Finding.{FindsLeaf, leaf_count}
use Rattle.rb_fetch.specs.inner.Choosing.{HasLeaves, HasRootCon, IsPartIn, parts_from}
use Rattle.rb_fetch.specs.inner.Fields.{leaf_at}
use Rattle.rb_fetch.specs.inner.Heads.{AreLookedAt, IsNext, bare_paths, head_under, heads_in, leaf_known, leaves_beside, leaves_for, leaves_that_can_be, shown_heads, take_apart}
use Rattle.rb_fetch.specs.inner.Seen.{seen_more}
use Rattle.rb_fetch.specs.inner.Sound.{IsSound}

-- The start ----------------------------------------------------------------------------------

-- the patterns that are shown of the fields are all that is known; those constructors without fields need no look
pub record IsShown (agreed : LaidOut) (shown : List Pat) (seen : Seen) : Type 0 where
  pub are_known : shown_heads seen.known ≡ heads_below (map heads_of shown) 0
  pub are_looked : seen.looked ≡ bare_paths agreed.covered.program.types (heads_below (map heads_of shown) 0)

-- the choice of the leaf of a construction by con begins with all leaves that the shown patterns leave, with the
-- arguments hs as parts, and with what is shown
pub record IsStart (agreed : LaidOut) (con : ConRef) (hs : List Held) (shown : List Pat) (start : Start) : Type 0 where
  pub sound : IsSound agreed
  pub is_seen : IsShown agreed shown start.seen
  pub are_leaves : start.leaves ≡ leaves_beside agreed.layouts con.ty (heads_below (map heads_of shown) 0)
      (leaves_for con.con (leaves_of_layout (layout_of agreed.layouts con.ty)) 0)
  pub are_parts : start.parts ≡ parts_from 0 hs

-- Questions ----------------------------------------------------------------------------------

-- the question is for the part at this place, one of the parts xs; what is known tells its leaf where that leaves one
pub record IsAskedOf (agreed : LaidOut) (place : Place) (xs : List Subvalue) (seen : Seen)
    (question : Question) : Type 0 where
  pub is_place : question.place ≡ place
  pub is_part : IsPartIn xs place.path place.con.ty question.words
  pub is_told : question.told ≡ leaf_known agreed.layouts place.con.ty place.path (shown_heads seen.known)

-- type t has a leaf n, whose provenance has its constructors below the root at these places
pub record HasPlaces (agreed : LaidOut) (t n : ℕ) (places : List Place) : Type 0 where
  pub sound : IsSound agreed
  pub leaf : Leaf
  pub is_leaf : leaf_at agreed.layouts t n ≡ Some leaf
  pub are_places : shown_heads places ≡ inner_heads leaf

-- type t has a leaf n, and no place of it needs a look any more
pub record NeedsNone (agreed : LaidOut) (t n : ℕ) (seen : Seen) : Type 0 where
  pub places : List Place
  pub has : HasPlaces agreed t n places
  pub looked : AreLookedAt seen.looked places

-- type t has a leaf n, and the question is for the part at a place of it that needs a look still
pub record AsksFor (agreed : LaidOut) (t n : ℕ) (seen : Seen) (xs : List Subvalue) (question : Question) : Type 0 where
  pub places : List Place
  pub has : HasPlaces agreed t n places
  pub next : IsNext seen.looked places question.place
  pub is_asked : IsAskedOf agreed question.place xs seen question

-- Looks --------------------------------------------------------------------------------------

-- the code from old to new finds the leaf of a value of type s whose words are in the slots `words`: it leaves by the
-- holes to the leaves of the type's layout
pub record IsLook (agreed : LaidOut) (s : ℕ) (words : List ℕ) (old new : Sheet) (look : Look) : Type 0 where
  pub sound : IsSound agreed
  pub has : HasLeaves agreed.layouts s look.count
  pub finds : FindsLeaf agreed s words old new look.holes
  pub are_holes : AreHoles (length old.code) (leaf_count agreed s) new.code look.holes
  pub one_way : AreOfOneWay look.holes
  pub grows : Grows old.code new.code

-- What a leaf tells --------------------------------------------------------------------------

-- where the part at a place has leaf l of its type: `kept` are those of the leaves of type t that can still be here,
-- and what is known grows from `old` to `new` by a look there, and by the constructors of that leaf
pub record IsLearnt (agreed : LaidOut) (t : ℕ) (leaves : List ℕ) (place : Place) (l : ℕ) (old new : Seen)
    (learnt : Learnt) : Type 0 where
  pub sound : IsSound agreed
  pub root : ℕ
  pub heads : List Place
  pub is_root : HasRootCon agreed.layouts place.con.ty l root
  pub are_heads : shown_heads heads ≡ map (head_under place.path) (heads_in (leaf_at agreed.layouts place.con.ty l))
  pub are_kept : learnt.kept ≡ leaves_beside agreed.layouts t (shown_heads heads)
      (leaves_that_can_be agreed.layouts t place.path root leaves)
  pub is_apart : learnt.apart ≡ take_apart agreed.layouts t place.path learnt.kept
  pub is_seen : new ≡ seen_more agreed.covered.program.types old place.path heads
