-- What the code of a leaf does. A leaf holds some of a type's values, those that its provenance matches. An open
-- position is a wildcard of the provenance, by its path from the root, and a subvalue is the value at one, in slots.
-- A plan has a program and its layouts, and a sheet is a function's code so far. A run goes on by `next`, from the
-- number of an instruction, the words s of all slots and the world w, which has the memory and counts switches. A
-- representation is clean where all bits are 0 that stand in no part of a word.
use Rattle.std.specs.Prelude.{◌≡◌, ℕ, ◌≤◌, List, [], Bool, Some, length, slice_get}
use Rattle.rb_core.specs.declared.value.Value.{Value}
use Rattle.rb_core.specs.declared.types.Ty.TheVariants.{Named}
use Rattle.rb_core.specs.declared.outcome.SourceEnd.TheVariants.{Done}
use Rattle.rb_core.specs.TypedPrograms.{IsTyped}
use Rattle.rb_bytes.specs.Memory.{IsGood}
use Rattle.rb_target.specs.declared.instr.Instr.{Instr}
use Rattle.rb_target.specs.Growth.{Nowhere, AgreesBut}
use Rattle.rb_target.specs.Laws.{Law}
use Rattle.rb_target.specs.Meaning.{World, Next, Callee}
use Rattle.rb_target.specs.Sheet.{Sheet}
use Rattle.rb_layout.specs.declared.layout.Layout.{Layout}
use Rattle.rb_layout.specs.declared.layout.Leaf.{Leaf}
use Rattle.rb_layout.specs.Agreement.{AreAgreed}
use Rattle.rb_layout.specs.Positions.{Open, leaf_of, layout_of, open_positions}
use Rattle.rb_rel.specs.Placing.{blocks_of, lay}
use Rattle.rb_fragment.specs.Plan.{Plan, words_needed}
use Rattle.rb_fragment.specs.Owing.{Ends}
use Rattle.rb_fragment.specs.Adding.{Adds}
use Rattle.rb_fragment.specs.Fragments.{Comes}
use Rattle.rb_fragment.specs.Slots.{AllBelow, AllFrom, IsDistinct}
use Rattle.rb_compose.specs.declared.subvalue.Subvalue.{Subvalue}
use Rattle.rb_compose.specs.Subvalues.{AreGivenAt, ArePartsHeld}

-- the open positions of a leaf: those of its provenance
abbrev pub opens_of_leaf : Plan → Leaf → List Open
opens_of_leaf plan leaf = open_positions plan.program.types leaf.prov

-- From instruction `start` on, with the words s in slots and in world w, the run makes value v of data type t. Where
-- the value's blocks fit, the memory has exactly these more, and the run comes to instruction b with the value in
-- `slots`, cleanly where the flag is up, and with the first n slots kept; else the first block that does not fit is
-- asked for in vain. A value without blocks leaves the memory as it was. In the end the world counts at most `most`
-- switches.
abbrev pub MakesValue : Plan → Bool → ℕ → Next → ℕ → ℕ → ℕ → ℕ → List ℕ → Value → List ℕ → World → Type 0
MakesValue plan clean most next start b n t slots v s w =
    Ends most (next start s w) w.memory (lay w.memory.limit w.memory.next (blocks_of plan.layouts t v)) (Done v w.left)
    (λ u w'. Comes plan clean (next start s w) next b n (Named t) slots s u w'
    × (blocks_of plan.layouts t v ≡ [] → w'.memory ≡ w.memory))

-- The code from old to new makes the values of leaf n of type t, of the subvalues xs at its open positions and as
-- cleanly as these are, in `slots`, which are new, each once. It does no switch.
pub record LeafIsMade (plan : Plan) (t n : ℕ) (layout : Layout) (leaf : Leaf) (xs : List Subvalue) (old new : Sheet)
    (slots : List ℕ) : Type 0 where
  pub adds : Adds plan old new
  pub given : AllBelow new.slots slots
  pub count : length slots ≡ words_needed plan (Named t)
  pub fresh : AllFrom old.slots slots
  pub distinct : IsDistinct slots
  pub does : (clean : Bool) (v : Value) → leaf_of layout v ≡ Some n
      → (final : List Instr) (callee : Callee) (next : Next) → Law final callee next
      → AgreesBut final new.code (length old.code) (length new.code) Nowhere
      → (s : List ℕ) (w : World) → new.slots ≤ length s → IsGood w.memory
      → ArePartsHeld plan clean s w.memory (opens_of_leaf plan leaf) xs v
      → MakesValue plan clean w.switches next (length old.code) (length new.code) old.slots t slots v s w

-- in every typed program whose layouts agree and have the leaf, the code from old to new makes the values of the
-- leaf, in `slots`, of the subvalues xs that are given at its open positions
abbrev pub MakesLeaf : Leaf → List Subvalue → Sheet → Sheet → List ℕ → Type 0
MakesLeaf leaf xs old new slots =
    (plan : Plan) → IsTyped plan.program → AreAgreed plan.program plan.layouts
    → (t n : ℕ) (layout : Layout) → layout_of plan.layouts t ≡ Some layout → slice_get layout.leaves n ≡ Some leaf
    → AreGivenAt plan old.slots (opens_of_leaf plan leaf) xs → LeafIsMade plan t n layout leaf xs old new slots
