-- The code of a construction: its arms, one a way to a leaf, and where they meet. A leaf is one of the forms in which
-- a layout stores the values of a data type. A way is where runs have come to one leaf, with the parts of the value
-- in slots; its arm is the code behind it, which makes the value in that leaf. The slots that arms share are those in
-- which the first arm has the value's words; the others copy theirs there. Each arm ends with an open jump, which is
-- set to where all meet. A leaf's provenance is the pattern of the values that it holds; its wildcards are the open
-- positions. A plan has a program and its layouts, and a sheet is a function's code so far. `agreed` is a program with
-- layouts that agree with its types.
use Rattle.std.specs.Prelude.{◌≡◌, ℕ, zero, suc, ◌+◌, ◌<◌, ◌≤◌, Bool, true, List, [], ◌++◌, length, Option, Some, None, slice_get}
use Rattle.rb_core.specs.declared.value.Value.{Value}
use Rattle.rb_core.specs.declared.types.ConRef.{ConRef}
use Rattle.rb_core.specs.declared.types.Ty.TheVariants.{Named}
use Rattle.rb_core.specs.TypedPrograms.{IsTyped}
use Rattle.rb_bytes.specs.Memory.{IsGood}
use Rattle.rb_target.specs.declared.body.Hole.{Hole}
use Rattle.rb_target.specs.declared.instr.Instr.{Instr}
use Rattle.rb_target.specs.Growth.{AgreesBut}
use Rattle.rb_target.specs.Laws.{Law}
use Rattle.rb_target.specs.Meaning.{World, Next, Callee}
use Rattle.rb_target.specs.Sheet.{Sheet}
use Rattle.rb_layout.specs.declared.agreed.LaidOut.{LaidOut}
use Rattle.rb_layout.specs.declared.layout.Layout.{Layout}
use Rattle.rb_layout.specs.declared.layout.Leaf.{Leaf}
use Rattle.rb_layout.specs.Agreement.{AreAgreed}
use Rattle.rb_layout.specs.Positions.{leaf_of, layout_of, open_positions}
use Rattle.rb_rel.specs.Switches.{inner_heads, is_leaf_for}
use Rattle.rb_fragment.specs.declared.held.Held.{Held}
use Rattle.rb_fragment.specs.Adding.{Adds}
use Rattle.rb_fragment.specs.Arms.{ArmsAre, ArmsIn, AreShared, whole_match}
use Rattle.rb_fragment.specs.Plan.{Plan, words_needed}
use Rattle.rb_fragment.specs.Slots.{copies, with_join}
use Rattle.rb_compose.specs.Making.{MakesValue}
use Rattle.rb_compose.specs.Subvalues.{ArePartsHeld}
use Rattle.rb_fetch.specs.declared.choice.Choices.{Choices}
use Rattle.rb_fetch.specs.declared.choice.Way.{Way}
use Rattle.rb_fetch.specs.declared.construct.Met.{Met}
use Rattle.rb_fetch.specs.inner.Choice.{IsWay}
use Rattle.rb_fetch.specs.inner.Choosing.{choices_from}
use Rattle.rb_fetch.specs.inner.Sound.{IsSound}

-- One leaf -------------------------------------------------------------------------------------

-- the first leaf for a constructor, which takes no field apart: it is that of all its values
pub record IsAlone (con : ℕ) (leaves : List Leaf) (leaf : Leaf) : Type 0 where
  pub number : ℕ
  pub is_number : slice_get leaves number ≡ Some leaf
  pub root : is_leaf_for con leaf ≡ true
  pub shallow : inner_heads leaf ≡ []
  pub before : (i : ℕ) (x : Leaf) → i < number → slice_get leaves i ≡ Some x → is_leaf_for con x ≡ true → ⊥

-- of the leaves of its type's layout, this one is that of all values of constructor con
pub record IsAloneIn (agreed : LaidOut) (con : ConRef) (leaf : Leaf) : Type 0 where
  pub sound : IsSound agreed
  pub layout : Layout
  pub is_layout : layout_of agreed.layouts con.ty ≡ Some layout
  pub is_alone : IsAlone con.con layout.leaves leaf

-- no leaf with a number below n is for the values of constructor con
abbrev pub NoneFor : ℕ → List Leaf → ℕ → Type 0
NoneFor con leaves n = (i : ℕ) (x : Leaf) → i < n → slice_get leaves i ≡ Some x → is_leaf_for con x ≡ true → ⊥

-- Where arms meet ------------------------------------------------------------------------------

-- the slots to which an arm copies its words: those that the arms before it share; none for the first arm
abbrev pub move_targets : Option (List ℕ) → List ℕ
move_targets None = []
move_targets (Some xs) = xs

-- the slots from which an arm copies its words: its own; none for the first arm, whose words stay where they are
abbrev pub move_sources : Option (List ℕ) → List ℕ → List ℕ
move_sources None slots = []
move_sources (Some xs) slots = slots

-- the slots that hold an arm's words in the end: those that the arms before it share, or its own for the first arm
abbrev pub meeting_slots : Option (List ℕ) → List ℕ → List ℕ
meeting_slots None slots = slots
meeting_slots (Some xs) slots = xs

-- the code b with copies of an arm's words from `slots` to the slots that arms share; b itself where none are shared
abbrev pub with_moves : Sheet → Option (List ℕ) → List ℕ → Sheet
with_moves b None slots = b
with_moves b (Some xs) slots = record b { code = b.code ++ copies xs slots }

-- Behind the code c of an arm's value its words stay in their slots, or go to those of the arms before it; and
-- a jump is open.
pub record IsMet (into : Option (List ℕ)) (slots : List ℕ) (c d : Sheet) (r : Met) : Type 0 where
  pub shared : r.into ≡ meeting_slots into slots
  pub code : d ≡ with_join c (move_targets into) (move_sources into slots)
  pub join : r.join ≡ record {
    pc = length c.code + length (copies (move_targets into) (move_sources into slots));
    arm = None;
    leaf = 0;
  }

-- the slots that arms share, once there are some: as many as a value of type t has words, from n on and below m
abbrev pub IsShared : Plan → ℕ → ℕ → ℕ → Option (List ℕ) → Type 0
IsShared plan n m t None = Unit {0}
IsShared plan n m t (Some xs) = AreShared n m (words_needed plan (Named t)) xs

-- slots are shared where the number of arms is not 0, and none are where it is 0
abbrev pub Reaches : ℕ → Option (List ℕ) → Type 0
Reaches zero None = Unit {0}
Reaches zero (Some xs) = ⊥
Reaches (suc i) None = ⊥
Reaches (suc i) (Some xs) = Unit {0}

-- Arms -----------------------------------------------------------------------------------------

-- the code from a to d makes the values of the way's leaf, and comes to an open jump with them in the shared slots
abbrev pub MakesArm : Plan → ℕ → Layout → Way → ℕ → List ℕ → Sheet → Sheet → ℕ → Type 0
MakesArm plan t layout way n into a d join =
    (leaf : Leaf) → slice_get layout.leaves way.leaf ≡ Some leaf → (clean : Bool) (v : Value)
    → leaf_of layout v ≡ Some way.leaf
    → (final : List Instr) (callee : Callee) (next : Next) → Law final callee next
    → AgreesBut final d.code (length a.code) (length d.code) (λ pc. pc ≡ join)
    → (s : List ℕ) (w : World) → d.slots ≤ length s → IsGood w.memory
    → ArePartsHeld plan clean s w.memory (open_positions plan.program.types leaf.prov) way.fields v
    → MakesValue plan clean w.switches next (length a.code) join n t into v s w

-- The code from a to d is the arm of a way: it makes the values of the way's leaf and leaves them in the slots that
-- arms share, which are those of the arms before it where there are any.
pub record ArmIsMade (plan : Plan) (t : ℕ) (layout : Layout) (way : Way) (n : ℕ) (into : Option (List ℕ))
    (a d : Sheet) (r : Met) : Type 0 where
  pub adds : Adds plan a d
  pub shared : IsShared plan n d.slots t (Some r.into)
  pub same : (xs : List ℕ) → into ≡ Some xs → r.into ≡ xs
  pub makes : MakesArm plan t layout way n r.into a d r.join.pc

-- in every typed program whose layouts agree, and where type t has these leaves, the code from a to d is the arm of a
-- way whose parts are in slots that there were
abbrev pub EmitsArm : ℕ → List Leaf → Way → Option (List ℕ) → Sheet → Sheet → Met → Type 0
EmitsArm t leaves way into a d r =
    (plan : Plan) → IsTyped plan.program → AreAgreed plan.program plan.layouts → (layout : Layout)
    → layout_of plan.layouts t ≡ Some layout → layout.leaves ≡ leaves
    → (n : ℕ) → n ≤ a.slots → IsWay plan layout n way → IsShared plan n a.slots t into
    → ArmIsMade plan t layout way n into a d r

-- the code from a to d makes the values of the leaf of way k, and comes to the open jump `join` with them in the
-- shared slots
abbrev pub MakesNumber : Plan → ℕ → Layout → List Way → ℕ → List ℕ → ℕ → Sheet → Sheet → ℕ → Type 0
MakesNumber plan t layout ways n into k a d join =
    (way : Way) → slice_get ways k ≡ Some way → MakesArm plan t layout way n into a d join

-- the arms of the first i ways stand behind e in the code q: each has its start and its open jump, and leaves its
-- words in the slots that all share
pub record ArmsAreMade (plan : Plan) (t : ℕ) (layout : Layout) (ways : List Way) (i : ℕ) (e q : Sheet)
    (into : Option (List ℕ)) (joins : List Hole) (starts : List ℕ) : Type 0 where
  pub adds : Adds plan e q
  pub shared : IsShared plan e.slots q.slots t into
  pub arms : ArmsIn i e q joins starts (MakesNumber plan t layout ways e.slots (move_targets into))

-- in every typed program whose layouts agree, and where type t has these leaves, the code from e to q is the arms of
-- the first i ways
abbrev pub EmitsArms : ℕ → List Leaf → List Way → ℕ → Sheet → Sheet → Option (List ℕ) → List Hole → List ℕ → Type 0
EmitsArms t leaves ways i e q into joins starts =
    (plan : Plan) → IsTyped plan.program → AreAgreed plan.program plan.layouts → (layout : Layout)
    → layout_of plan.layouts t ≡ Some layout → layout.leaves ≡ leaves
    → ((k : ℕ) (way : Way) → slice_get ways k ≡ Some way → IsWay plan layout e.slots way)
    → ArmsAreMade plan t layout ways i e q into joins starts

-- the code from e to new is the arms of all ways: the choices' holes lead to them, and they meet behind the last one
-- with the value in the slots of `held`
pub record WaysMeet (t : ℕ) (leaves : List Leaf) (choices : Choices) (e new : Sheet) (held : Held) : Type 0 where
  pub kind : held.ty ≡ Named t
  pub last : Sheet
  pub joins : List Hole
  pub starts : List ℕ
  pub are : ArmsAre (length choices.ways) e last joins starts
  pub emits : EmitsArms t leaves choices.ways (length choices.ways) e last (Some held.slots) joins starts
  pub code : new ≡ whole_match last choices.holes starts joins

-- the same for the choice that the ways are and the leaves of the layout of type t
pub record AreMet (agreed : LaidOut) (t : ℕ) (ways : List Way) (e new : Sheet) (held : Held) : Type 0 where
  pub sound : IsSound agreed
  pub layout : Layout
  pub is_layout : layout_of agreed.layouts t ≡ Some layout
  pub meets : WaysMeet t layout.leaves (choices_from ways) e new held
