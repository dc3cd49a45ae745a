-- What facts say, what instructions do to slots and memory, and which facts hold behind them. A fact says of a slot
-- what it holds, its content: a number, another slot's word or bits of it, or what an operation or a load gives.
-- Slots hold s means that s has the word of each slot by its number; m is the memory. Behind an instruction is where
-- the run goes on in the function, to the next instruction or to a target. A way is one of these; that of a switch's
-- arm tells the fact that the switch's slot holds the arm's number, any other tells nothing.
use Rattle.std.specs.Prelude.{◌≡◌, ℕ, ◌%◌, ◌^◌, ◌≤◌, List, length, slice_index, slice_set, Option, IfSome, Ok, Contains}
use Rattle.rb_bits.specs.Words.{take_of, put_of}
use Rattle.rb_bytes.specs.Memory.{Memory, load_of}
use Rattle.rb_target.specs.Meaning.{alu_of, put_slots}
use Rattle.rb_target.specs.Validity.{SlotsFit}
use Rattle.rb_target.specs.declared.instr.Instr.{Instr}
use Rattle.rb_target.specs.declared.instr.Instr.TheVariants.{Const, Copy, Alu, Take, Put, Load, Store, Place, Jump, Switch, Call, Return}
use Rattle.rb_trim.specs.declared.fact.Content.{Content}
use Rattle.rb_trim.specs.declared.fact.Content.TheVariants.{Number, Same, Part, Computed, Loaded}
use Rattle.rb_trim.specs.declared.fact.Fact.{Fact}

-- the word x is the content, where the slots hold s and the memory is m: bits are l of slot a from bit o on, and a
-- load is of `width` bits, `offset` bytes behind the address in slot a; no word is that of a load that fails
abbrev pub IsContent : List ℕ → Memory → Content → ℕ → Type 0
IsContent s m (Number c) x = x ≡ c
IsContent s m (Same a) x = x ≡ slice_index s a
IsContent s m (Part a o l) x = x ≡ take_of (slice_index s a) o l
IsContent s m (Computed op n a b) x = x ≡ alu_of op n (slice_index s a) (slice_index s b)
IsContent s m (Loaded a offset width) x = load_of m (slice_index s a) offset width ≡ Ok x

-- the fact holds: its slot has its content, where the slots hold s and the memory is m
abbrev pub IsSo : List ℕ → Memory → Fact → Type 0
IsSo s m fact = IsContent s m fact.content (slice_index s fact.slot)

-- all the facts hold, where the slots hold s and the memory is m
abbrev pub Hold : List ℕ → Memory → List Fact → Type 0
Hold s m facts = (fact : Fact) → Contains facts fact → IsSo s m fact

-- the fact that a way tells holds where the slots hold s and the memory is m; so does None, that it tells nothing
abbrev pub FactSays : Option Fact → List ℕ → Memory → Type 0
FactSays told s m = IfSome told (λ fact. IsSo s m fact)

-- An instruction may lead from slots s and memory m to slots s' and memory m' behind it, where the run goes on in the
-- function: never behind a return, nor a load that fails. What a store, a place and a call do to memory is left open,
-- and so are the address of what is placed and the results of a call.
abbrev pub Turns : Instr → List ℕ → Memory → List ℕ → Memory → Type 0
Turns (Const d c) s m s' m' = (s' ≡ slice_set s d c) × (m' ≡ m)
Turns (Copy d a) s m s' m' = (s' ≡ slice_set s d (slice_index s a)) × (m' ≡ m)
Turns (Alu op n d a b) s m s' m' = (s' ≡ slice_set s d (alu_of op n (slice_index s a) (slice_index s b))) × (m' ≡ m)
Turns (Take d a o l) s m s' m' = (s' ≡ slice_set s d (take_of (slice_index s a) o l)) × (m' ≡ m)
Turns (Put d a o l) s m s' m' = (s' ≡ slice_set s d (put_of (slice_index s d) o l (slice_index s a % 2 ^ l))) × (m' ≡ m)
Turns (Load d a offset width) s m s' m' =
    (x : ℕ) × (load_of m (slice_index s a) offset width ≡ Ok x) × (s' ≡ slice_set s d x) × (m' ≡ m)
Turns (Store a offset width v) s m s' m' = s' ≡ s
Turns (Place d size align) s m s' m' = (x : ℕ) × (s' ≡ slice_set s d x)
Turns (Jump t) s m s' m' = (s' ≡ s) × (m' ≡ m)
Turns (Switch a other arms) s m s' m' = (s' ≡ s) × (m' ≡ m)
Turns (Call f ds froms) s m s' m' = (words : List ℕ) × (s' ≡ put_slots s ds words)
Turns (Return froms) s m s' m' = ⊥

-- behind the instruction the facts `behind` hold, where `facts` hold before it and the way by which the run goes on
-- tells `told`
pub record Follows (facts : List Fact) (told : Option Fact) (i : Instr) (behind : List Fact) : Type 0 where
  pub by : (slots : ℕ) (s s' : List ℕ) (m m' : Memory) → slots ≤ length s → SlotsFit slots i → Hold s m facts
      → FactSays told s m
      → Turns i s m s' m' → Hold s' m' behind
