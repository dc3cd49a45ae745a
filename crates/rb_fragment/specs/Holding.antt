-- Variables and values in slots. A local is a variable with its type and the slots that hold its value, a word each;
-- a held value has a type and slots, and no name.
use Rattle.std.specs.Prelude.{◌≡◌, ℕ, ◌⊎◌, Bool, List, [], ◌∷◌, ◌++◌, map, length}
use Rattle.rb_core.specs.declared.value.Value.{Value}
use Rattle.rb_core.specs.declared.types.Ty.{Ty}
use Rattle.rb_core.specs.declared.typing.Binder.{Binder}
use Rattle.rb_core.specs.declared.binding.Binding.{Binding}
use Rattle.rb_bytes.specs.Memory.{Memory}
use Rattle.rb_target.specs.Meaning.{slots_at}
use Rattle.rb_fragment.specs.declared.held.Held.{Held}
use Rattle.rb_fragment.specs.declared.held.Local.{Local}
use Rattle.rb_fragment.specs.Plan.{Plan, Rep, words_needed}
use Rattle.rb_fragment.specs.Slots.{AllBelow, IsOneOf}

-- Variables

-- the variable and the type of a local, without its slots
abbrev pub binder_in : Local → Binder
binder_in l = record { var = l.var; ty = l.ty }

-- the variables of locals with their types, in order: the scope of an expression over them
abbrev pub scope_of : List Local → List Binder
scope_of locals = map binder_in locals

-- each of the locals has as many slots as its type has words, all below n
abbrev pub AreGiven : Plan → ℕ → List Local → Type 0
AreGiven plan n [] = Unit {0}
AreGiven plan n (l ∷ ls) = AllBelow n l.slots × (length l.slots ≡ words_needed plan l.ty) × AreGiven plan n ls

-- slot x is one of those of the locals
abbrev pub IsOfLocal : ℕ → List Local → Type 0
IsOfLocal x [] = ⊥
IsOfLocal x (l ∷ ls) = IsOneOf x l.slots ⊎ IsOfLocal x ls

-- the locals' slots represent the values that are bound to their variables, one binding each and in the same order
abbrev pub Holds : Plan → Bool → List ℕ → Memory → List Local → List Binding → Type 0
Holds plan clean s m [] [] = Unit {0}
Holds plan clean s m [] (b ∷ bs) = ⊥
Holds plan clean s m (l ∷ ls) [] = ⊥
Holds plan clean s m (l ∷ ls) (b ∷ bs) =
    (l.var ≡ b.var) × Rep plan m clean l.ty b.value (slots_at s l.slots) × Holds plan clean s m ls bs

-- Values

-- the type of a held value
abbrev pub held_type : Held → Ty
held_type h = h.ty

-- the slots of held values, one value behind the other
abbrev pub all_slots : List Held → List ℕ
all_slots [] = []
all_slots (h ∷ hs) = h.slots ++ all_slots hs

-- each of the held values has as many slots as its type has words, all below n
abbrev pub AllGiven : Plan → ℕ → List Held → Type 0
AllGiven plan n [] = Unit {0}
AllGiven plan n (h ∷ hs) = AllBelow n h.slots × (length h.slots ≡ words_needed plan h.ty) × AllGiven plan n hs

-- the slots of hs represent the values vs, one each and in the same order
abbrev pub AreHeld : Plan → Bool → List ℕ → Memory → List Held → List Value → Type 0
AreHeld plan clean s m [] [] = Unit {0}
AreHeld plan clean s m [] (v ∷ vs) = ⊥
AreHeld plan clean s m (h ∷ hs) [] = ⊥
AreHeld plan clean s m (h ∷ hs) (v ∷ vs) = Rep plan m clean h.ty v (slots_at s h.slots) × AreHeld plan clean s m hs vs
