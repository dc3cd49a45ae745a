-- What code that fetches owes: it leaves in a slot what stands at a location. A location is a range of bits of one of
-- a value's words, or of a word that steps load: each takes an address from the range before it. A leaf is one of the
-- forms in which a layout stores the values of a data type; a location resolves in it where it ends in one of the
-- leaf's words. A plan has a program and its layouts, and a sheet is a function's code so far.
use Rattle.std.specs.Prelude.{◌≡◌, ℕ, ◌<◌, ◌≤◌, List, [], ◌∷◌, Bool, Some, length, slice_get, slice_index}
use Rattle.rb_core.specs.declared.value.Value.{Value}
use Rattle.rb_core.specs.declared.layout_decl.Loc.{Loc}
use Rattle.rb_core.specs.declared.layout_decl.Step.{Step}
use Rattle.rb_core.specs.TypedPrograms.{IsTyped}
use Rattle.rb_bits.specs.Words.{IsRange, take_of}
use Rattle.rb_bytes.specs.Memory.{Memory, IsGood, IsWidth}
use Rattle.rb_target.specs.Meaning.{slots_at}
use Rattle.rb_target.specs.Sheet.{Sheet}
use Rattle.rb_target.specs.Validity.{most_offset}
use Rattle.rb_layout.specs.declared.layout.Layout.{Layout}
use Rattle.rb_layout.specs.declared.layout.Leaf.{Leaf}
use Rattle.rb_layout.specs.Agreement.{AreAgreed}
use Rattle.rb_layout.specs.Locations.{Reached, reached_at}
use Rattle.rb_layout.specs.Positions.{layout_of}
use Rattle.rb_rel.specs.Relation.{Made}
use Rattle.rb_rel.specs.Reading.{WordStands, read_loc}
use Rattle.rb_fragment.specs.Plan.{Plan}
use Rattle.rb_fragment.specs.Adding.{Adds}
use Rattle.rb_fragment.specs.Pieces.{Straight}
use Rattle.rb_fragment.specs.Slots.{AllBelow}

-- Locations that instructions can read ---------------------------------------------------------

-- the range of l bits from bit o on, and the byte, the width and the range of each step behind it, are such as
-- instructions have
abbrev pub StepsFit : ℕ → ℕ → List Step → Type 0
StepsFit o l [] = IsRange o l
StepsFit o l (s ∷ steps) = IsRange o l × (s.byte ≤ most_offset) × IsWidth s.width × StepsFit s.o s.l steps

-- instructions can read what stands at the location: its range and its steps are such as they have
abbrev pub LocFits : Loc → Type 0
LocFits loc = StepsFit loc.o loc.l loc.steps

-- the code from old to new leaves a number in `slot`, wherever Is says which one it is, of the words in the slots
-- `words` and the memory, and keeps all slots that there were
pub record Fetches (plan : Plan) (words : List ℕ) (Is : List ℕ → Memory → ℕ → Type 0) (old new : Sheet)
    (slot : ℕ) : Type 0 where
  pub adds : Adds plan old new
  pub given : slot < new.slots
  pub runs : (x : ℕ) → Straight plan old.slots old new (λ s m. IsGood m × Is (slots_at s words) m x)
      (λ s m. slice_index s slot ≡ x)

-- x is the number that stands at the location, for the words ws of a value, over memory m
abbrev pub IsReadAt : Loc → List ℕ → Memory → ℕ → Type 0
IsReadAt loc ws m x = read_loc ws m loc ≡ Some x

-- in every plan, the code from old to new leaves in `slot` what stands at a location that instructions can read, for
-- the words in some slots
abbrev pub FetchesLoc : List ℕ → Loc → Sheet → Sheet → ℕ → Type 0
FetchesLoc words loc old new slot =
    (plan : Plan) → AllBelow old.slots words → loc.word < length words → LocFits loc
    → Fetches plan words (IsReadAt loc) old new slot

-- Represented values ---------------------------------------------------------------------------

-- the words ws represent, over memory m, a value of type t, in whose leaf the location comes to a word, of which
-- `bits` are the bits that the location says
pub record AreBitsAt (plan : Plan) (t : ℕ) (loc : Loc) (ws : List ℕ) (m : Memory) (bits : ℕ) : Type 0 where
  pub clean : Bool
  pub value : Value
  pub made : Made plan.program.types plan.layouts m clean t value ws
  pub reached : Reached
  pub resolves : reached_at made.leaf loc ≡ Some reached
  pub found : ℕ
  pub stands : WordStands made.leaf ws m clean made.subs made.ats reached.ref reached.word found
  pub are_bits : bits ≡ take_of found reached.o reached.l

-- the plan has a typed program, with layouts that agree with its types
pub record PlanIsSound (plan : Plan) : Type 0 where
  pub typed : IsTyped plan.program
  pub agreed : AreAgreed plan.program plan.layouts

-- In every plan that is sound, the code from old to new leaves in `slot` the bits at a location in the leaf of a
-- value whose words are in some slots. The location resolves in some leaf with as many root words.
abbrev pub FetchesBits : List ℕ → Loc → Sheet → Sheet → ℕ → Type 0
FetchesBits words loc old new slot =
    (plan : Plan) → PlanIsSound plan → AllBelow old.slots words
    → (u n : ℕ) (layout : Layout) (leaf : Leaf) (x : Reached) → layout_of plan.layouts u ≡ Some layout
    → slice_get layout.leaves n ≡ Some leaf
    → length words ≡ length leaf.root → reached_at leaf loc ≡ Some x
    → (t : ℕ) → Fetches plan words (AreBitsAt plan t loc) old new slot
