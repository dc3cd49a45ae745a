-- The code of a tree of splits while it is made: which of a switch's targets are done. A split tests the bits at a
-- location of a value's words: an arm leads on where they are its literal, and the else, if there is one, where no
-- arm has them. Its code fetches the bits into a slot and switches on it. A hole is a target of a jump or switch that
-- is still open, and its `leaf` is the number of the leaf to which it leads. A target is done where it is such a
-- hole, or leads to the code of the tree below it. It is named by the number of its arm, and that of an else, or of a
-- jump, by none. Of a value's words there are reads, numbers that code can make from slots and loads, and `widths`
-- has the most bits of each. A plan has a program and its layouts, and a sheet is a function's code so far.
use Rattle.std.specs.Prelude.{◌≡◌, ℕ, ◌+◌, ◌<◌, ◌≤◌, ◌^◌, ◌⊎◌, List, map, length, Option, Some, None, is_some, slice_get}
use Rattle.std.specs.Bool.{then_some}
use Rattle.rb_core.specs.declared.layout_decl.Loc.{Loc}
use Rattle.rb_bytes.specs.Memory.{IsGood}
use Rattle.rb_target.specs.declared.instr.SwitchArm.{SwitchArm}
use Rattle.rb_target.specs.declared.instr.Instr.{Instr}
use Rattle.rb_target.specs.declared.instr.Instr.TheVariants.{Switch}
use Rattle.rb_target.specs.declared.body.Hole.{Hole}
use Rattle.rb_target.specs.Growth.{Grows}
use Rattle.rb_target.specs.Laws.{Law}
use Rattle.rb_target.specs.Meaning.{World, Next, Callee}
use Rattle.rb_target.specs.Sheet.{Sheet, IsHole}
use Rattle.rb_target.specs.Targets.{without_targets, without_targets_in, target_in, IsHoleAmong, IsOpenTarget, Finishes}
use Rattle.rb_layout.specs.declared.layout.FlatTree.{FlatTree, Split}
use Rattle.rb_layout.specs.declared.layout.FlatArm.{FlatArm}
use Rattle.rb_layout.specs.Splits.{Route, routes_of, SplitAt, splits_of}
use Rattle.rb_rel.specs.Reading.{walk}
use Rattle.rb_rel.specs.Switches.{nesting}
use Rattle.rb_fragment.specs.declared.reads.Read.{Read}
use Rattle.rb_fragment.specs.Plan.{Plan}
use Rattle.rb_fragment.specs.Adding.{Adds}
use Rattle.rb_fragment.specs.Arms.{AreOfOneWay}
use Rattle.rb_fragment.specs.Pieces.{GoesOutBy}
use Rattle.rb_fragment.specs.WordReads.{AreMeant, AllFit}
use Rattle.rb_fetch.specs.Fetching.{LocFits}
use Rattle.rb_fetch.specs.inner.Fetching.{AreSmall, FetchesAt}

-- Splits that instructions can do

-- instructions can do the split: its location, which they can read, begins at one of n words; its literals are words
pub record SplitFits (n : ℕ) (split : SplitAt) : Type 0 where
  pub loc : LocFits split.loc
  pub word : split.loc.word < n
  pub small : (k c : ℕ) → slice_get split.literals k ≡ Some c → c < 2 ^ 64

-- instructions can do each split of the tree, and each begins at one of n words
abbrev pub TreeFits : ℕ → FlatTree → Type 0
TreeFits n tree = (k : ℕ) (split : SplitAt) → slice_get (splits_of tree) k ≡ Some split → SplitFits n split

-- Runs

-- from instruction `start` on, with `top` slots or more, the run leaves by one of the holes hs, of the leaf to which
-- the tree leads, where the reads mean words of these widths; it keeps the first n slots, and does at most as many
-- switches as splits are nested
abbrev pub Does : List Instr → Next → List Read → List ℕ → FlatTree → List Hole → ℕ → ℕ → ℕ → Type 0
Does final next words widths tree hs n top start =
    (s : List ℕ) (w : World) (k : ℕ) (ws : List ℕ) → top ≤ length s → IsGood w.memory → AreMeant words s w.memory ws
    → AreSmall widths ws → walk tree ws w.memory ≡ Some k
    → GoesOutBy final next hs n (nesting tree) start s w k (λ s' m. Unit {0})

-- the arm of the instruction at pc, or its else where arm is none, has a target, from which on the run does the tree
abbrev pub ArmLeads : List Instr → Next → List Read → List ℕ → FlatTree → List Hole → ℕ → ℕ → ℕ → Option ℕ → Type 0
ArmLeads final next words widths tree hs n top pc arm =
    (t : ℕ) × (target_in (slice_get final pc) arm ≡ Some t) × Does final next words widths tree hs n top t

-- Holes

-- hs has all holes of hs0, and others only in the code from a up to b
pub record MoreHoles (hs0 hs : List Hole) (a b : ℕ) : Type 0 where
  pub old : (h : Hole) → IsHoleAmong h hs0 → IsHoleAmong h hs
  pub new : (h : Hole) → IsHoleAmong h hs → IsHoleAmong h hs0 ⊎ ((a ≤ h.pc) × (h.pc < b))

-- each leaf to which the tree leads has a number below `count`
abbrev pub LeavesBelow : ℕ → FlatTree → Type 0
LeavesBelow count tree = (k : ℕ) (r : Route) → slice_get (routes_of tree) k ≡ Some r → r.leaf < count

-- h is a hole of the code, for a leaf whose number is below `count`
abbrev pub IsLeafHole : ℕ → List Instr → Hole → Type 0
IsLeafHole count code h = (h.leaf < count) × IsHole code h

-- all holes stand in front of instruction a
abbrev pub AreBefore : ℕ → List Hole → Type 0
AreBefore a hs = (h : Hole) → IsHoleAmong h hs → h.pc < a

-- The code from the end of the old one on does the tree, and leaves by holes of its leaves: it tests the words that
-- the reads `words` mean. hs0 are the holes before, and hs those with the holes of this code.
pub record Looks (words : List Read) (widths : List ℕ) (tree : FlatTree) (old : Sheet) (hs0 : List Hole)
    (new : Sheet) (hs : List Hole) : Type 0 where
  pub more : MoreHoles hs0 hs (length old.code) (length new.code)
  pub leaves : (count : ℕ) → LeavesBelow count tree → (h : Hole) → IsHoleAmong h hs → IsHoleAmong h hs0
      ⊎ IsLeafHole count new.code h
  pub ways : AreBefore (length old.code) hs0 → AreOfOneWay hs0 → AreOfOneWay hs
  pub adds : (plan : Plan) (k : ℕ) → k ≤ old.slots → AllFit k words → TreeFits (length words) tree → Adds plan old new
  pub runs : (plan : Plan) (final : List Instr) (callee : Callee) (next : Next) (n top : ℕ) → Law final callee next
      → AllFit n words → n ≤ old.slots → new.slots ≤ top → TreeFits (length words) tree
      → AreBefore (length old.code) hs0 → Finishes final new.code hs (length old.code) (length new.code)
      → Does final next words widths tree hs n top (length old.code)

-- Splits

-- the arm of a switch for the literal of a split's arm; it leads to instruction t until it is set
abbrev pub open_arm : ℕ → FlatArm → SwitchArm
open_arm t a = record { number = a.literal; target = t }

-- the arms of a switch for the literals of a split's arms; each leads to instruction t until it is set
abbrev pub open_arms_of : ℕ → List FlatArm → List SwitchArm
open_arms_of t arms = map (open_arm t) arms

-- the tree below an arm; none without an arm
abbrev pub under_arm : Option FlatArm → Option FlatTree
under_arm None = None
under_arm (Some a) = Some a.under

-- the tree below the arm with this number, or below the else where no number is given; none where there is none
abbrev pub under_at : List FlatArm → Option FlatTree → Option ℕ → Option FlatTree
under_at arms other None = other
under_at arms other (Some k) = under_arm (slice_get arms k)

-- the switch of a split behind the code c, which fetched what is tested into a slot; its targets lead to the next
-- instruction until they are set
abbrev pub switch_of : Sheet → ℕ → List FlatArm → Option FlatTree → Instr
switch_of c slot arms other =
    Switch slot (then_some (is_some other) (length c.code + 1)) (open_arms_of (length c.code + 1) arms)

-- A split whose word is fetched by the code c, whose switch stands behind it in b, and some of whose targets are
-- done: those of which Done says so, by their arms.
pub record SplitDone (words : List Read) (widths : List ℕ) (loc : Loc) (arms : List FlatArm)
    (other : Option FlatTree) (c : Sheet) (slot : ℕ) (hs0 : List Hole) (Done : Option ℕ → Type 0) (b : Sheet)
    (hs : List Hole) : Type 0 where
  pub fetched : (q : ℕ) → q < length c.code → slice_get b.code q ≡ slice_get c.code q
  pub shaped : without_targets_in (slice_get b.code (length c.code))
      ≡ Some (without_targets (switch_of c slot arms other))
  pub long : length c.code < length b.code
  pub more : MoreHoles hs0 hs (length c.code) (length b.code)
  pub done : (h : Hole) → IsHoleAmong h hs → h.pc ≡ length c.code → IsHoleAmong h hs0 ⊎ Done h.arm
  pub leaves : (count : ℕ) → LeavesBelow count (Split loc arms other) → (h : Hole) → IsHoleAmong h hs
      → IsHoleAmong h hs0 ⊎ IsLeafHole count b.code h
  pub ways : AreBefore (length c.code) hs0 → AreOfOneWay hs0 → AreOfOneWay hs
  pub adds : (plan : Plan) (k : ℕ) → slot < c.slots → k ≤ c.slots → AllFit k words
      → TreeFits (length words) (Split loc arms other) → Adds plan c b
  pub runs : (plan : Plan) (final : List Instr) (callee : Callee) (next : Next) (n top : ℕ) → Law final callee next
      → AllFit n words → n ≤ c.slots → slot < c.slots → b.slots ≤ top
      → TreeFits (length words) (Split loc arms other) → AreBefore (length c.code) hs0
      → without_targets_in (slice_get final (length c.code)) ≡ Some (without_targets (switch_of c slot arms other))
      → ((arm : Option ℕ) → Done arm → (IsOpenTarget hs (length c.code) arm → ⊥)
      → target_in (slice_get final (length c.code)) arm ≡ target_in (slice_get b.code (length c.code)) arm)
      → Finishes final b.code hs (length c.code + 1) (length b.code)
      → (arm : Option ℕ) (tree : FlatTree) → Done arm → under_at arms other arm ≡ Some tree
      → ArmLeads final next words widths tree hs n top (length c.code) arm

-- a target is that of one of the first k arms; never that of the else
abbrev pub IsBefore : ℕ → Option ℕ → Type 0
IsBefore k None = ⊥
IsBefore k (Some j) = j < k

-- the switch at pc is that of the tree's root, a split, and the first k of its arms are done
pub record ArmsDone (words : List Read) (widths : List ℕ) (tree : FlatTree) (arms : List FlatArm)
    (other : Option FlatTree) (old : Sheet) (hs0 : List Hole) (pc k : ℕ) (b : Sheet) (hs : List Hole) : Type 0 where
  pub grows : Grows old.code b.code
  pub loc : Loc
  pub is_tree : tree ≡ Split loc arms other
  pub fetched : Sheet
  pub slot : ℕ
  pub fetches : FetchesAt words widths loc old fetched slot
  pub longer : Grows old.code fetched.code
  pub at : pc ≡ length fetched.code
  pub done : SplitDone words widths loc arms other fetched slot hs0 (IsBefore k) b hs
