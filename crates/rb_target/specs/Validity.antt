-- When functions are valid together.
--
-- A slot is one of a function's own words, by its number from 0. Functions, and the instructions of a body, are
-- numbered from 0, too; `pc` is the number of an instruction, and a target one to which a jump or a switch goes.
-- Offsets, sizes and alignments are bytes, and widths are bits.
use Rattle.std.specs.Prelude.{◌≡◌, ℕ, ◌+◌, ◌-◌, ◌^◌, ◌<◌, ◌≤◌, ◌⊎◌, List, [], ◌∷◌, length, sum_by, Option, Some, None, slice_get, All, IfSome}
use Rattle.rb_bits.specs.Words.{IsRange}
use Rattle.rb_bytes.specs.Memory.{IsWidth, IsSize, IsAlign, most_block}
use Rattle.rb_target.specs.declared.instr.SwitchArm.{SwitchArm}
use Rattle.rb_target.specs.declared.instr.Instr.{Instr}
use Rattle.rb_target.specs.declared.instr.Instr.TheVariants.{Const, Copy, Alu, Take, Put, Load, Store, Place, Jump, Switch, Call, Return}
use Rattle.rb_target.specs.declared.code.CodeFun.{CodeFun}

-- the greatest offset of a load or a store: the last byte of a block of the greatest size
abbrev pub most_offset : ℕ
most_offset = most_block - 1

-- The numbers of an instruction that are no slots, no targets and no function's are within their bounds: what a
-- machine word can say for a constant and an arm's number, 1 to 64 bits for an operation, a range of at least one bit
-- within 64 bits, an offset of at most `most_offset`, and the widths, sizes and alignments that memory takes.
abbrev pub IsBounded : Instr → Type 0
IsBounded (Const d c) = c < 2 ^ 64
IsBounded (Copy d a) = Unit {0}
IsBounded (Alu op n d a b) = (1 ≤ n) × (n ≤ 64)
IsBounded (Take d a o l) = IsRange o l
IsBounded (Put d a o l) = IsRange o l
IsBounded (Load d a offset width) = (offset ≤ most_offset) × IsWidth width
IsBounded (Store a offset width v) = (offset ≤ most_offset) × IsWidth width
IsBounded (Place d size align) = IsSize size × IsAlign align
IsBounded (Jump t) = Unit {0}
IsBounded (Switch a other arms) = All (λ (arm : SwitchArm). arm.number < 2 ^ 64) arms
IsBounded (Call f ds froms) = Unit {0}
IsBounded (Return froms) = Unit {0}

-- each of some slots is below a number; so it is where there is none
abbrev pub AreSlots : ℕ → List ℕ → Type 0
AreSlots n xs = All (λ a. a < n) xs

-- each slot that an instruction names, to read it or to write it, is below a number
abbrev pub SlotsFit : ℕ → Instr → Type 0
SlotsFit n (Const d c) = d < n
SlotsFit n (Copy d a) = (d < n) × (a < n)
SlotsFit n (Alu op bits d a b) = (d < n) × (a < n) × (b < n)
SlotsFit n (Take d a o l) = (d < n) × (a < n)
SlotsFit n (Put d a o l) = (d < n) × (a < n)
SlotsFit n (Load d a offset width) = (d < n) × (a < n)
SlotsFit n (Store a offset width v) = (a < n) × (v < n)
SlotsFit n (Place d size align) = d < n
SlotsFit n (Jump t) = Unit {0}
SlotsFit n (Switch a other arms) = a < n
SlotsFit n (Call f ds froms) = AreSlots n ds × AreSlots n froms
SlotsFit n (Return froms) = AreSlots n froms

-- a target lies behind the instruction pc and within the body's length
abbrev pub IsTarget : ℕ → ℕ → ℕ → Type 0
IsTarget long pc t = (pc < t) × (t < long)

-- the targets of all arms lie behind the instruction pc and within the body's length; so it is where there is no arm
abbrev pub AreArms : ℕ → ℕ → List SwitchArm → Type 0
AreArms long pc arms = All (λ (arm : SwitchArm). IsTarget long pc arm.target) arms

-- the targets of an instruction, if it has any, lie behind it, where pc is its number, and within the body's length
abbrev pub TargetsFit : ℕ → ℕ → Instr → Type 0
TargetsFit long pc (Jump t) = IsTarget long pc t
TargetsFit long pc (Switch a other arms) = IfSome other (λ t. IsTarget long pc t) × AreArms long pc arms
TargetsFit long pc i = Unit {0}

-- there is a function to call, and the call has as many slots for results as the function has results, and as many
-- words as it has parameters
abbrev pub FitsCall : Option CodeFun → List ℕ → List ℕ → Type 0
FitsCall None ds froms = ⊥
FitsCall (Some f) ds froms = (length ds ≡ f.results) × (length froms ≡ f.params)

-- a call is of one of these functions, with its numbers of results and words, and a return has as many words as its
-- own function has results, which `results` is; other instructions always fit
abbrev pub CallsFit : List CodeFun → ℕ → Instr → Type 0
CallsFit funs results (Call f ds froms) = FitsCall (slice_get funs f) ds froms
CallsFit funs results (Return froms) = length froms ≡ results
CallsFit funs results i = Unit {0}

-- the instruction i may stand at pc in the body of the function f, beside these functions, which its calls name by
-- their numbers
pub record IsFine (funs : List CodeFun) (f : CodeFun) (pc : ℕ) (i : Instr) : Type 0 where
  pub bounded : IsBounded i
  pub slots : SlotsFit f.slots i
  pub targets : TargetsFit (length f.body) pc i
  pub calls : CallsFit funs f.results i

-- the slots that an instruction writes, in the order in which it names them; none for what writes no slot
abbrev pub dests : Instr → List ℕ
dests (Const d c) = d ∷ []
dests (Copy d a) = d ∷ []
dests (Alu op n d a b) = d ∷ []
dests (Take d a o l) = d ∷ []
dests (Put d a o l) = d ∷ []
dests (Load d a offset width) = d ∷ []
dests (Store a offset width v) = []
dests (Place d size align) = d ∷ []
dests (Jump t) = []
dests (Switch a other arms) = []
dests (Call f ds froms) = ds
dests (Return froms) = []

-- how many slots the instructions of a body name as written, one named twice counted twice
abbrev pub dest_count : List Instr → ℕ
dest_count body = sum_by (λ i. length (dests i)) body

-- the last instruction of a body is a return, so the body has one
abbrev pub EndsInReturn : List Instr → Type 0
EndsInReturn body = (froms : List ℕ) × (slice_get body (length body - 1) ≡ Some (Return froms))

-- the byte is a small letter, from a to z
abbrev pub IsSmall : ℕ → Type 0
IsSmall b = (97 ≤ b) × (b ≤ 122)

-- the byte is a letter, a digit or an underscore
abbrev pub IsNameByte : ℕ → Type 0
IsNameByte b = IsSmall b ⊎ ((65 ≤ b) × (b ≤ 90)) ⊎ ((48 ≤ b) × (b ≤ 57)) ⊎ (b ≡ 95)

-- a name, by its bytes, that begins with a small letter and goes on with letters, digits and underscores; none is
-- empty
abbrev pub IsLower : List ℕ → Type 0
IsLower [] = ⊥
IsLower (b ∷ bs) = IsSmall b × All IsNameByte bs

-- the function f is valid beside these functions, which its calls name by their numbers
pub record IsValidFun (funs : List CodeFun) (f : CodeFun) : Type 0 where
  pub named : IsLower f.name
  -- each parameter has its slot
  pub params : f.params ≤ f.slots
  -- no more slots than the parameters and what is written, so that no small text asks for many
  pub written : f.slots ≤ f.params + dest_count f.body
  pub ends : EndsInReturn f.body
  pub each : (pc : ℕ) (i : Instr) → slice_get f.body pc ≡ Some i → IsFine funs f pc i
  -- what a machine word can say
  pub small : (f.slots < 2 ^ 64) × (f.results < 2 ^ 64) × (length f.body < 2 ^ 64)

-- the functions are valid together; a machine word counts them
pub record IsValid (funs : List CodeFun) : Type 0 where
  pub few : length funs < 2 ^ 64
  pub each : (n : ℕ) (f : CodeFun) → slice_get funs n ≡ Some f → IsValidFun funs f
