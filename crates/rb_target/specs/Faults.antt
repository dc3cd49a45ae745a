-- What keeps functions from being valid together, where it stands, and which comes first.
--
-- f is a function, pc the number of an instruction in its body, and n the number of a function among all. What is
-- wrong with a function as a whole counts as a fault of one of its instructions.
use Rattle.std.specs.Prelude.{◌≡◌, ℕ, ◌+◌, ◌-◌, ◌^◌, ◌<◌, ◌⊎◌, List, length, Some, slice_get}
use Rattle.rb_target.specs.Validity.{SlotsFit, TargetsFit, CallsFit, EndsInReturn, dest_count}
use Rattle.rb_target.specs.declared.instr.Instr.{Instr}
use Rattle.rb_target.specs.declared.code.CodeFun.{CodeFun}
use Rattle.rb_target.specs.declared.fault.CodeFault.{CodeFault}
use Rattle.rb_target.specs.declared.fault.CodeFault.TheVariants.{CodeSyntax, BadSlot, BadJump, BadCall, Memory}

-- f has an instruction pc, and it lacks a property
abbrev pub InstrFails : (Instr → Type 0) → CodeFun → ℕ → Type 0
InstrFails P f pc = (i : Instr) × (slice_get f.body pc ≡ Some i) × ¬ P i

-- the function has fewer slots than parameters, or more than the parameters and the slots that its body names as
-- written, one named twice counted twice
abbrev pub MiscountsSlots : CodeFun → Type 0
MiscountsSlots f = (f.slots < f.params) ⊎ (f.params + dest_count f.body < f.slots)

-- a fault of slots stands at pc: pc is 0 and the function's number of slots is wrong, or the instruction names a slot
-- that is not below that number
abbrev pub HasBadSlot : CodeFun → ℕ → Type 0
HasBadSlot f pc = ((pc ≡ 0) × MiscountsSlots f) ⊎ InstrFails (SlotsFit f.slots) f pc

-- a fault of targets stands at pc: pc is the last instruction, or 0 in a body that has none, and the body ends in no
-- return; or a target of the instruction is no later instruction of the body
abbrev pub HasBadJump : CodeFun → ℕ → Type 0
HasBadJump f pc = ((pc ≡ length f.body - 1) × ¬ EndsInReturn f.body) ⊎ InstrFails (TargetsFit (length f.body) pc) f pc

-- a fault of calls stands at pc: a call of no function, or with other numbers of results and words than its callee's,
-- or a return of another number of results than the function's
abbrev pub HasBadCall : List CodeFun → CodeFun → ℕ → Type 0
HasBadCall funs f pc = InstrFails (CallsFit funs f.results) f pc

-- there is a function n, and it has a property
abbrev pub InFun : List CodeFun → ℕ → (CodeFun → Type 0) → Type 0
InFun funs n P = (f : CodeFun) × (slice_get funs n ≡ Some f) × P f

-- the functions have this fault; bytes that are no text, and want of memory, are no faults of functions
abbrev pub FaultStands : List CodeFun → CodeFault → Type 0
FaultStands funs (BadSlot n pc) = InFun funs n (λ f. HasBadSlot f pc)
FaultStands funs (BadJump n pc) = InFun funs n (λ f. HasBadJump f pc)
FaultStands funs (BadCall n pc) = InFun funs n (λ f. HasBadCall funs f pc)
FaultStands funs (CodeSyntax at) = ⊥
FaultStands funs Memory = ⊥

-- the numbers of the fault's function, of its instruction, and of its kind; 0 for a function and an instruction where
-- the fault is of none
abbrev pub place_of_fault : CodeFault → ℕ × ℕ × ℕ
place_of_fault (BadSlot n pc) = (n, pc, 21)
place_of_fault (BadJump n pc) = (n, pc, 22)
place_of_fault (BadCall n pc) = (n, pc, 23)
place_of_fault (CodeSyntax at) = (0, 0, 20)
place_of_fault Memory = (0, 0, 0)

-- one place, as `place_of_fault` gives it, is before another: by function, then by instruction, then by kind
abbrev pub IsBefore : ℕ × ℕ × ℕ → ℕ × ℕ × ℕ → Type 0
IsBefore a b = (a.0 < b.0) ⊎ ((a.0 ≡ b.0) × ((a.1 < b.1) ⊎ ((a.1 ≡ b.1) × (a.2 < b.2))))

-- the functions have this fault, and none that comes before it
pub record IsFirstCodeFault (funs : List CodeFun) (fault : CodeFault) : Type 0 where
  pub stands : FaultStands funs fault
  pub first : (other : CodeFault) → FaultStands funs other → ¬ IsBefore (place_of_fault other) (place_of_fault fault)

-- the functions, and the instructions of each, are fewer than 2 ^ 64, so that a machine word counts them
pub record IsCountable (funs : List CodeFun) : Type 0 where
  pub few : length funs < 2 ^ 64
  pub each : (n : ℕ) (f : CodeFun) → slice_get funs n ≡ Some f → length f.body < 2 ^ 64
