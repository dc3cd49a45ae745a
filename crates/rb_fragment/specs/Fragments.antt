-- Code that does what the source does: it may call and place blocks.
use Rattle.std.specs.Prelude.{◌≡◌, ℕ, ◌≤◌, ◌⊎◌, Bool, List, [], map, take, length}
use Rattle.rb_core.specs.declared.value.Value.{Value}
use Rattle.rb_core.specs.declared.types.Ty.{Ty}
use Rattle.rb_core.specs.declared.binding.Binding.{Binding}
use Rattle.rb_core.specs.declared.program.Fun.{Fun}
use Rattle.rb_core.specs.declared.outcome.Outcome.{Outcome}
use Rattle.rb_core.specs.Meaning.{Calls, Meaning, all_of, then_with}
use Rattle.rb_bytes.specs.Memory.{Memory, IsGood}
use Rattle.rb_bytes.specs.Growth.{Grown}
use Rattle.rb_target.specs.declared.instr.Instr.{Instr}
use Rattle.rb_target.specs.declared.instr.Instr.TheVariants.{Call}
use Rattle.rb_target.specs.Growth.{Nowhere, AgreesBut, Keeps}
use Rattle.rb_target.specs.Laws.{Law}
use Rattle.rb_target.specs.Meaning.{World, CallEnd as Run, Next, Callee, slots_at}
use Rattle.rb_target.specs.Sheet.{Sheet, with_more}
use Rattle.rb_fragment.specs.declared.held.Held.{Held}
use Rattle.rb_fragment.specs.declared.held.Local.{Local}
use Rattle.rb_fragment.specs.Plan.{Plan, Rep, words_needed}
use Rattle.rb_fragment.specs.Owing.{Does, CallsAgree}
use Rattle.rb_fragment.specs.Adding.{Adds}
use Rattle.rb_fragment.specs.Slots.{AllBelow, IsOneOf, slots_from, with_slots}
use Rattle.rb_fragment.specs.Holding.{IsOfLocal, Holds, AreHeld, AllGiven, held_type, all_slots, scope_of}

-- the run comes to instruction b with the value in the slots, and the first n slots kept
abbrev pub Comes : Plan → Bool → Run → Next → ℕ → ℕ → Ty → List ℕ → List ℕ → Value → World → Type 0
Comes plan clean out next b n t slots s v w =
    (s' : List ℕ) × (out ≡ next b s' w) × Keeps n s s' × Rep plan w.memory clean t v (slots_at s' slots)

-- From the end of the old code to that of the new one the run does what o does, wherever Pre holds: in any
-- finished code that has the new code, and with any calls that are the source's.
pub record Fragment (plan : Plan) (clean : Bool) (calls : Calls) (old new : Sheet) (Pre : List ℕ → Memory → Type 0)
    (o : ℕ → Outcome)
    (t : Ty) (slots : List ℕ) : Type 0 where
  pub runs : (final : List Instr) (callee : Callee) (next : Next) → Law final callee next → CallsAgree plan calls callee
      → AgreesBut final new.code (length old.code) (length new.code) Nowhere
      → (s : List ℕ) (w : World) → new.slots ≤ length s → IsGood w.memory → Pre s w.memory
      → Does plan w.switches (next (length old.code) s w) w.memory (o w.left)
      (Comes plan clean (next (length old.code) s w) next (length new.code) old.slots t slots s)

-- the appended code leaves what ev gives in slots, which are new or a variable's
pub record Emits (plan : Plan) (ev : Calls → ℕ → List Binding → Outcome) (locals : List Local) (old new : Sheet)
    (t : Ty)
    (slots : List ℕ) : Type 0 where
  pub adds : Adds plan old new
  pub given : AllBelow new.slots slots
  pub count : length slots ≡ words_needed plan t
  pub origin : (x : ℕ) → IsOneOf x slots → (old.slots ≤ x) ⊎ IsOfLocal x locals
  pub does : (calls : Calls) (clean : Bool) (env : List Binding)
      → Fragment plan clean calls old new (λ s m. Holds plan clean s m locals env) (λ left. ev calls left env) t slots

-- any values are right: nothing is asked of them
abbrev pub AnyValues : List Value → Type 0
AnyValues vs = Unit {0}

-- the appended code does f of the values that are held, where they are such ones, and leaves the result in new slots
pub record Applies (plan : Plan) (Such : List Value → Type 0) (f : Calls → List Value → ℕ → Outcome)
    (hs : List Held) (old new : Sheet) (t : Ty)
    (slots : List ℕ) : Type 0 where
  pub adds : Adds plan old new
  pub given : AllBelow new.slots slots
  pub count : length slots ≡ words_needed plan t
  pub fresh : (x : ℕ) → IsOneOf x slots → old.slots ≤ x
  pub does : (calls : Calls) (clean : Bool) (vs : List Value) → Such vs
      → Fragment plan clean calls old new (λ s m. AreHeld plan clean s m hs vs) (f calls vs) t slots

-- The appended code leaves the values of some expressions, each at its wanted type, in the slots of hs, and
-- whatever code comes then does what go does of the values. They are such ones.
pub record EmitsAll (plan : Plan) (Such : List Value → Type 0) (ms : Calls → List Meaning) (ts : List Ty)
    (locals : List Local) (old new : Sheet)
    (hs : List Held) : Type 0 where
  pub adds : Adds plan old new
  pub given : AllGiven plan new.slots hs
  pub kinds : map held_type hs ≡ take (length hs) ts
  pub count : (calls : Calls) → length (ms calls) ≡ length hs
  pub does : (calls : Calls) (clean : Bool) (env : List Binding)
      → (final : List Instr) (callee : Callee) (next : Next) → Law final callee next → CallsAgree plan calls callee
      → AgreesBut final new.code (length old.code) (length new.code) Nowhere
      → (s : List ℕ) (w : World) → new.slots ≤ length s → IsGood w.memory → Holds plan clean s w.memory locals env
      → (go : List Value → ℕ → Outcome) (b : ℕ) (t : Ty) (slots : List ℕ)
      → ((vs : List Value) (s' : List ℕ) (w' : World) (bs : List (ℕ × ℕ)) (p : ℕ) → Such vs
      → next (length old.code) s w ≡ next (length new.code) s' w' → Keeps old.slots s s'
      → Grown w.memory w'.memory bs p → AreHeld plan clean s' w'.memory hs vs
      → Does plan w'.switches (next (length old.code) s w) w'.memory (go vs w'.left)
      (Comes plan clean (next (length old.code) s w) next b old.slots t slots s))
      → Does plan w.switches (next (length old.code) s w) w.memory
      (then_with (all_of (ms calls) ts (scope_of locals) [] w.left env) go)
      (Comes plan clean (next (length old.code) s w) next b old.slots t slots s)

-- a call of function g, its result in new slots
abbrev pub with_call : Plan → Sheet → ℕ → Fun → List Held → Sheet
with_call plan b g f hs =
    with_more (with_slots b (words_needed plan f.result))
    (Call g (slots_from b.slots (words_needed plan f.result)) (all_slots hs))
