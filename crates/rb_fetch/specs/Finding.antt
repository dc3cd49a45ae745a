-- What code that finds a value's leaf owes. A leaf is one of the forms in which a layout stores the values of a data
-- type. The code leaves by holes: a hole is a target of a jump or switch that is still open, and its `leaf` is the
-- number of the leaf, or of the group of leaves, to which it leads. A list of groups has at each leaf's number that
-- of its group, or None; past its end a leaf has no group either. The leaf is found by a tree of splits, each of which
-- is a switch on bits of the value's words; for groups the tree is pruned, so that no split is left that tells nothing
-- apart. A read is a number that code can make from slots and loads; it means that number, over slots s and memory m.
-- A plan has a program and its layouts, and a sheet is a function's code so far. `agreed` is a program with layouts
-- that agree with its types. A representation is clean where all bits are 0 that stand in no part of a word.
use Rattle.std.specs.Prelude.{◌≡◌, ℕ, List, Bool, Option, Some, None, length, slice_get}
use Rattle.rb_core.specs.declared.value.Value.{Value}
use Rattle.rb_core.specs.declared.types.Ty.TheVariants.{Named}
use Rattle.rb_bytes.specs.Memory.{Memory}
use Rattle.rb_target.specs.declared.body.Hole.{Hole}
use Rattle.rb_target.specs.Meaning.{slots_at}
use Rattle.rb_target.specs.Sheet.{Sheet}
use Rattle.rb_layout.specs.declared.agreed.LaidOut.{LaidOut}
use Rattle.rb_layout.specs.declared.layout.Layout.{Layout}
use Rattle.rb_layout.specs.declared.layout.Leaf.{Leaf}
use Rattle.rb_layout.specs.Positions.{leaf_of, layout_of}
use Rattle.rb_rel.specs.Relation.{word_count}
use Rattle.rb_rel.specs.Switches.{depth_of}
use Rattle.rb_fragment.specs.Plan.{Plan, Rep}
use Rattle.rb_fragment.specs.Pieces.{Branches}
use Rattle.rb_fragment.specs.Slots.{AllBelow}
use Rattle.rb_fragment.specs.WordReads.{AreMeant, AllFit}
use Rattle.rb_fragment.specs.declared.reads.Read.{Read}
use Rattle.rb_fetch.specs.Pruning.{group_at, nesting_in, pruned_of}

-- the words represent, over memory m, a value of type t, whose leaf is number n
pub record HasLeaf (plan : Plan) (t n : ℕ) (ws : List ℕ) (m : Memory) : Type 0 where
  pub layout : Layout
  pub is_layout : layout_of plan.layouts t ≡ Some layout
  pub clean : Bool
  pub value : Value
  pub represents : Rep plan m clean (Named t) value ws
  pub is_leaf : leaf_of layout value ≡ Some n

-- the plan is one of the agreed program: it has this program, and the layouts that agree with it
pub record IsPlanOf (agreed : LaidOut) (plan : Plan) : Type 0 where
  pub program : plan.program ≡ agreed.covered.program
  pub layouts : plan.layouts ≡ agreed.layouts

-- Run on words of a value, the appended code leaves by the hole that is of the value's leaf. It does a switch for each
-- level of nested splits at most, and keeps all slots that there were.
abbrev pub FindsLeaf : LaidOut → ℕ → List ℕ → Sheet → Sheet → List Hole → Type 0
FindsLeaf agreed t words old new holes =
    (plan : Plan) → IsPlanOf agreed plan → AllBelow old.slots words → length words ≡ word_count plan.layouts (Named t)
    → Branches plan old.slots old new holes (depth_of plan.layouts (Named t))
    (λ n s m. HasLeaf plan t n (slots_at s words) m) (λ n s m. Unit {0})

-- the reads, over slots s and memory m, mean words that represent a value of type t whose leaf is number n
pub record HasLeafMeant (plan : Plan) (t n : ℕ) (reads : List Read) (s : List ℕ) (m : Memory) : Type 0 where
  pub words : List ℕ
  pub are_meant : AreMeant reads s m words
  pub has_leaf : HasLeaf plan t n words m

-- The same where the reads mean words of a value, which may stand in memory still: by the hole that is of its leaf,
-- after a switch for each level of nested splits at most.
abbrev pub FindsLeafOf : LaidOut → ℕ → List Read → Sheet → Sheet → List Hole → Type 0
FindsLeafOf agreed t reads old new holes =
    (plan : Plan) → IsPlanOf agreed plan → AllFit old.slots reads → length reads ≡ word_count plan.layouts (Named t)
    → Branches plan old.slots old new holes (depth_of plan.layouts (Named t))
    (λ n s m. HasLeafMeant plan t n reads s m) (λ n s m. Unit {0})

-- the words represent, over memory m, a value of type t, whose leaf has group g in the list of groups
pub record HasGroup (plan : Plan) (t : ℕ) (groups : List (Option ℕ)) (g : ℕ) (ws : List ℕ) (m : Memory) : Type 0 where
  pub leaf : ℕ
  pub is_group : group_at groups leaf ≡ Some g
  pub has_leaf : HasLeaf plan t leaf ws m

-- the reads, over slots s and memory m, mean words that represent a value of type t whose leaf has group g
pub record HasGroupMeant (plan : Plan) (t : ℕ) (groups : List (Option ℕ)) (g : ℕ) (reads : List Read) (s : List ℕ)
    (m : Memory) : Type 0 where
  pub words : List ℕ
  pub are_meant : AreMeant reads s m words
  pub has_group : HasGroup plan t groups g words m

-- the most splits that are nested in the tree by which the group of a layout's leaf is found; 0 without a layout
abbrev pub group_depth_in : List (Option ℕ) → Option Layout → ℕ
group_depth_in groups None = 0
group_depth_in groups (Some layout) = nesting_in (pruned_of groups layout.tree)

-- the most splits that are nested in the tree by which the group of the leaf of a value of type t is found; 0 where t
-- has no layout
abbrev pub group_depth : List Layout → ℕ → List (Option ℕ) → ℕ
group_depth layouts t groups = group_depth_in groups (layout_of layouts t)

-- Run on words of a value whose leaf has a group, the appended code leaves by a hole of that group, with at most as
-- many switches as splits are nested in the tree that is pruned for the groups.
abbrev pub FindsGroup : LaidOut → ℕ → List (Option ℕ) → List ℕ → Sheet → Sheet → List Hole → Type 0
FindsGroup agreed t groups words old new holes =
    (plan : Plan) → IsPlanOf agreed plan → AllBelow old.slots words → length words ≡ word_count plan.layouts (Named t)
    → Branches plan old.slots old new holes (group_depth plan.layouts t groups)
    (λ g s m. HasGroup plan t groups g (slots_at s words) m) (λ g s m. Unit {0})

-- Run where the reads mean words of a value whose leaf has a group, the appended code leaves by a hole of that group,
-- with at most as many switches as splits are nested in the tree that is pruned for the groups.
abbrev pub FindsGroupOf : LaidOut → ℕ → List (Option ℕ) → List Read → Sheet → Sheet → List Hole → Type 0
FindsGroupOf agreed t groups reads old new holes =
    (plan : Plan) → IsPlanOf agreed plan → AllFit old.slots reads → length reads ≡ word_count plan.layouts (Named t)
    → Branches plan old.slots old new holes (group_depth plan.layouts t groups)
    (λ g s m. HasGroupMeant plan t groups g reads s m) (λ g s m. Unit {0})

-- leaf n of a layout; none without a layout, and past its leaves
abbrev pub leaf_within : Option Layout → ℕ → Option Leaf
leaf_within None n = None
leaf_within (Some layout) n = slice_get layout.leaves n

-- how many leaves a layout has; 0 without a layout
abbrev pub layout_leaf_count : Option Layout → ℕ
layout_leaf_count None = 0
layout_leaf_count (Some layout) = length layout.leaves

-- how many leaves the layout of type t has; 0 where t has no layout
abbrev pub leaf_count : LaidOut → ℕ → ℕ
leaf_count agreed t = layout_leaf_count (layout_of agreed.layouts t)
