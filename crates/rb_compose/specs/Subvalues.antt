-- Values at the open positions of a leaf, in slots. An open position is a part that the leaf does not tell: a path of
-- field numbers from the root, and the type there. A subvalue is the value at one, in slots. A plan has a program and
-- its layouts. In a run, s has the words of all slots, and m is the memory. A representation is clean where all bits
-- are 0 that stand in no part of a word.
use Rattle.std.specs.Prelude.{◌≡◌, ℕ, List, [], ◌∷◌, Bool, Option, Some, None, length, slice_get, if◌then◌else◌}
use Rattle.rb_core.specs.declared.value.Value.{Value}
use Rattle.rb_core.specs.Values.{part_at}
use Rattle.rb_bytes.specs.Memory.{Memory}
use Rattle.rb_target.specs.Meaning.{slots_at}
use Rattle.rb_layout.specs.Flattening.{same_path}
use Rattle.rb_layout.specs.Positions.{Open}
use Rattle.rb_fragment.specs.declared.held.Held.{Held}
use Rattle.rb_fragment.specs.Plan.{Plan, Rep, words_needed}
use Rattle.rb_fragment.specs.Slots.{AllBelow}
use Rattle.rb_compose.specs.declared.subvalue.Subvalue.{Subvalue}

-- the slots of a held value, or none if there is none
abbrev pub held_slots : Option Held → List ℕ
held_slots None = []
held_slots (Some h) = h.slots

-- the type and the slots of the first subvalue with this path, or None if none has it
abbrev pub subvalue_at : List Subvalue → List ℕ → Option Held
subvalue_at [] path = None
subvalue_at (x ∷ xs) path = if same_path x.path path then Some x.held else subvalue_at xs path

-- there is a subvalue among xs at the open position o, of its type and in as many slots as this has words, all below
-- n
pub record IsGivenAt (plan : Plan) (n : ℕ) (xs : List Subvalue) (o : Open) : Type 0 where
  pub held : Held
  pub is_there : subvalue_at xs o.path ≡ Some held
  pub kind : held.ty ≡ o.ty
  pub below : AllBelow n held.slots
  pub count : length held.slots ≡ words_needed plan o.ty

-- at each of the open positions there is a subvalue among xs of its type, in as many slots as this has words, all
-- below n
abbrev pub AreGivenAt : Plan → ℕ → List Open → List Subvalue → Type 0
AreGivenAt plan n opens xs = (k : ℕ) (o : Open) → slice_get opens k ≡ Some o → IsGivenAt plan n xs o

-- value v has a part at the open position o, and the slots of the subvalue there, among xs, represent it, cleanly
-- where the flag is up
pub record IsPartHeld (plan : Plan) (clean : Bool) (s : List ℕ) (m : Memory) (xs : List Subvalue) (v : Value)
    (o : Open) : Type 0 where
  pub held : Held
  pub is_there : subvalue_at xs o.path ≡ Some held
  pub part : Value
  pub is_part : part_at v o.path ≡ Some part
  pub represents : Rep plan m clean o.ty part (slots_at s held.slots)

-- value v has a part at each of the open positions, and the slots of the subvalue there, among xs, represent it,
-- cleanly where the flag is up
abbrev pub ArePartsHeld : Plan → Bool → List ℕ → Memory → List Open → List Subvalue → Value → Type 0
ArePartsHeld plan clean s m opens xs v =
    (k : ℕ) (o : Open) → slice_get opens k ≡ Some o → IsPartHeld plan clean s m xs v o
