-- Words for the parts of a test whether facts hold behind an instruction, where the run goes on after it. A fact says
-- of a slot what it holds, its content, which is told by the slots that it names. `facts` are those known before the
-- instruction, and s and m the words of the slots and the memory then. A way is one by which the run goes on, and
-- `told` the fact that it tells, if any: that of a switch's arm, that the switch's slot holds the arm's number. Bits
-- o, l are the l bits from bit o on.
use Rattle.std.specs.Prelude.{◌≡◌, ℕ, ◌%◌, ◌^◌, ◌<◌, ◌≤◌, ◌⊎◌, List, length, Option, Some, None, Ok, slice_get, slice_index, Contains, slice_set}
use Rattle.rb_bits.specs.Words.{put_of}
use Rattle.rb_bytes.specs.Memory.{Memory, load_of}
use Rattle.rb_target.specs.Validity.{SlotsFit}
use Rattle.rb_target.specs.declared.instr.Instr.{Instr}
use Rattle.rb_target.specs.declared.instr.Instr.TheVariants.{Const, Copy, Alu, Take, Put, Load, Store, Place, Jump, Switch, Call, Return}
use Rattle.rb_trim.specs.declared.fact.Content.{Content}
use Rattle.rb_trim.specs.declared.fact.Content.TheVariants.{Number, Same, Part, Computed, Loaded}
use Rattle.rb_trim.specs.declared.fact.Fact.{Fact}
use Rattle.rb_trim.specs.inner.Facts.{IsContent, IsSo, Hold, FactSays, Turns}

-- the slots a and b hold the same word where the facts hold
abbrev pub AreSame : List Fact → ℕ → ℕ → Type 0
AreSame facts a b = (s : List ℕ) (m : Memory) → Hold s m facts → slice_index s b ≡ slice_index s a

-- a word that is the content a is the content b, too, where the facts hold
pub record IsAsMuch (facts : List Fact) (a b : Content) : Type 0 where
  pub by : (s : List ℕ) (m : Memory) (x : ℕ) → Hold s m facts → IsContent s m a x → IsContent s m b x

-- the slot holds the content where the facts hold
pub record IsHeld (facts : List Fact) (slot : ℕ) (content : Content) : Type 0 where
  pub by : (s : List ℕ) (m : Memory) → Hold s m facts → IsContent s m content (slice_index s slot)

-- a word with this content has at most so many bits
abbrev pub IsBelow : Content → ℕ → Type 0
IsBelow content l = (s : List ℕ) (m : Memory) (x : ℕ) → IsContent s m content x → x < 2 ^ l

-- the slot's word has at most so many bits where the facts hold
abbrev pub IsNarrow : List Fact → ℕ → ℕ → Type 0
IsNarrow facts slot l = (s : List ℕ) (m : Memory) → Hold s m facts → slice_index s slot < 2 ^ l

-- the content is what becomes of the word in `slot` when the low l bits of slot a are put into it from bit o on,
-- where the facts hold
pub record IsLaid (facts : List Fact) (slot a o l : ℕ) (content : Content) : Type 0 where
  pub by : (s : List ℕ) (m : Memory) → Hold s m facts
      → IsContent s m content (put_of (slice_index s slot) o l (slice_index s a % 2 ^ l))

-- a load of `width` bits, `offset` bytes past the address in slot `base`, gives a word where the facts hold
pub record IsLoaded (facts : List Fact) (base offset width : ℕ) : Type 0 where
  pub by : (s : List ℕ) (m : Memory) → Hold s m facts → (x : ℕ) × (load_of m (slice_index s base) offset width ≡ Ok x)

-- the fact that an instruction makes of the slot that it writes, told by the slots before it; None for a put, and for
-- what places or stores, jumps, switches, calls or returns
abbrev pub made_fact : Instr → Option Fact
made_fact (Const d c) = Some (record { slot = d; content = Number c })
made_fact (Copy d a) = Some (record { slot = d; content = Same a })
made_fact (Alu op n d a b) = Some (record { slot = d; content = Computed op n a b })
made_fact (Take d a o l) = Some (record { slot = d; content = Part a o l })
made_fact (Load d a offset width) = Some (record { slot = d; content = Loaded a offset width })
made_fact i = None

-- the content is told by the slot k: it names that slot; a number is told by none
abbrev pub IsToldBy : Content → ℕ → Type 0
IsToldBy (Number c) k = ⊥
IsToldBy (Same a) k = a ≡ k
IsToldBy (Part a o l) k = a ≡ k
IsToldBy (Computed op n a b) k = (a ≡ k) ⊎ (b ≡ k)
IsToldBy (Loaded a offset width) k = a ≡ k

-- the instruction writes to the slot k; a call writes to those of its results, and a store, a jump, a switch and a
-- return to none
abbrev pub WritesTo : Instr → ℕ → Type 0
WritesTo (Const d c) k = d ≡ k
WritesTo (Copy d a) k = d ≡ k
WritesTo (Alu op n d a b) k = d ≡ k
WritesTo (Take d a o l) k = d ≡ k
WritesTo (Put d a o l) k = d ≡ k
WritesTo (Load d a offset width) k = d ≡ k
WritesTo (Store a offset width v) k = ⊥
WritesTo (Place d size align) k = d ≡ k
WritesTo (Jump t) k = ⊥
WritesTo (Switch a other arms) k = ⊥
WritesTo (Call f ds froms) k = Contains ds k
WritesTo (Return froms) k = ⊥

-- the instruction, which is no call, writes to the slot k, and to no other
abbrev pub Sets : Instr → ℕ → Type 0
Sets (Const d c) k = d ≡ k
Sets (Copy d a) k = d ≡ k
Sets (Alu op n d a b) k = d ≡ k
Sets (Take d a o l) k = d ≡ k
Sets (Put d a o l) k = d ≡ k
Sets (Load d a offset width) k = d ≡ k
Sets (Place d size align) k = d ≡ k
Sets i k = ⊥

-- the slots s' are s with a word in the fact's slot, one of the first `slots`, that was its content before, where the
-- memory was m; and memory stays
pub record FactIsMade (fact : Fact) (slots : ℕ) (s s' : List ℕ) (m m' : Memory) : Type 0 where
  pub word : ℕ
  pub is : IsContent s m fact.content word
  pub slot : s' ≡ slice_set s fact.slot word
  pub memory : m' ≡ m
  pub within : fact.slot < slots

-- the instruction, where the facts hold, puts the fact's content into the fact's slot, and changes nothing else
pub record IsTold (facts : List Fact) (i : Instr) (fact : Fact) : Type 0 where
  pub sets : Sets i fact.slot
  pub by : (slots : ℕ) (s s' : List ℕ) (m m' : Memory) → SlotsFit slots i → Hold s m facts → Turns i s m s' m'
      → FactIsMade fact slots s s' m m'

-- the instruction may change memory
abbrev pub Changes : Instr → Type 0
Changes (Store a offset width v) = Unit {0}
Changes (Place d size align) = Unit {0}
Changes (Call f ds froms) = Unit {0}
Changes i = ⊥

-- the instruction changes nothing that the content is told by: none of its slots, nor memory where it is loaded
abbrev pub KeepsContent : Instr → Content → Type 0
KeepsContent i (Number c) = Unit {0}
KeepsContent i (Same a) = ¬ WritesTo i a
KeepsContent i (Part a o l) = ¬ WritesTo i a
KeepsContent i (Computed op n a b) = (¬ WritesTo i a) × (¬ WritesTo i b)
KeepsContent i (Loaded a offset width) = (¬ WritesTo i a) × (¬ Changes i)

-- one fact holds behind the instruction, where the facts hold before it
pub record FollowsOne (facts : List Fact) (i : Instr) (fact : Fact) : Type 0 where
  pub by : (slots : ℕ) (s s' : List ℕ) (m m' : Memory) → slots ≤ length s → SlotsFit slots i → Hold s m facts
      → Turns i s m s' m'
      → IsSo s' m' fact

-- one fact holds behind the instruction, where the facts hold before it and the way by which the run goes on tells
-- `told`
pub record HoldsBehind (facts : List Fact) (told : Option Fact) (i : Instr) (fact : Fact) : Type 0 where
  pub by : (slots : ℕ) (s s' : List ℕ) (m m' : Memory) → slots ≤ length s → SlotsFit slots i → Hold s m facts
      → FactSays told s m
      → Turns i s m s' m' → IsSo s' m' fact

-- the fact with number k among `behind`, if there is one, holds behind the instruction as in `HoldsBehind`
pub record FollowsAt (facts : List Fact) (told : Option Fact) (i : Instr) (behind : List Fact) (k : ℕ) : Type 0 where
  pub at : (fact : Fact) → slice_get behind k ≡ Some fact → HoldsBehind facts told i fact
