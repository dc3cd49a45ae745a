-- Words for the parts of a check. f is a function, pc the number of an instruction in its body, and n the number of a
-- function among all. A fault's place is the number of its function, of its instruction, and of its kind.
use Rattle.std.specs.Prelude.{◌≡◌, ℕ, ◌+◌, ◌-◌, ◌≤◌, List, length, Some, slice_get}
use Rattle.rb_target.specs.Validity.{SlotsFit, TargetsFit, CallsFit, EndsInReturn, dest_count}
use Rattle.rb_target.specs.Faults.{FaultStands, IsBefore, place_of_fault}
use Rattle.rb_target.specs.declared.instr.Instr.{Instr}
use Rattle.rb_target.specs.declared.code.CodeFun.{CodeFun}
use Rattle.rb_target.specs.declared.fault.CodeFault.{CodeFault}

-- the instruction pc of f has a property, or there is no such instruction
abbrev pub InstrHolds : (Instr → Type 0) → CodeFun → ℕ → Type 0
InstrHolds P f pc = (i : Instr) → slice_get f.body pc ≡ Some i → P i

-- the function has a slot for each parameter, and no more beyond these than its body names as written
abbrev pub CountsSlots : CodeFun → Type 0
CountsSlots f = (f.params ≤ f.slots) × (f.slots ≤ f.params + dest_count f.body)

-- no fault of slots stands at pc: where pc is 0, the function's number of slots is right, and the slots that the
-- instruction names, if there is one, are below that number
abbrev pub HasGoodSlots : CodeFun → ℕ → Type 0
HasGoodSlots f pc = (pc ≡ 0 → CountsSlots f) × InstrHolds (SlotsFit f.slots) f pc

-- no fault of targets stands at pc: where pc is the last instruction, or 0 in a body that has none, the body ends in
-- a return, and the targets of the instruction, if there is one, are later instructions of the body
abbrev pub HasGoodJumps : CodeFun → ℕ → Type 0
HasGoodJumps f pc = (pc ≡ length f.body - 1 → EndsInReturn f.body) × InstrHolds (TargetsFit (length f.body) pc) f pc

-- no fault of calls stands at pc: the instruction, if there is one, calls a function that there is, with its numbers
-- of results and words, where it is a call, and has the function's number of results where it is a return
abbrev pub HasGoodCalls : List CodeFun → CodeFun → ℕ → Type 0
HasGoodCalls funs f pc = InstrHolds (CallsFit funs f.results) f pc

-- no fault of f stands at pc
pub record IsFaultless (funs : List CodeFun) (f : CodeFun) (pc : ℕ) : Type 0 where
  pub slots : HasGoodSlots f pc
  pub jumps : HasGoodJumps f pc
  pub calls : HasGoodCalls funs f pc

-- the fault stands in function n at instruction pc, and none that stands there has a kind with a lower number
pub record IsFaultAt (funs : List CodeFun) (n pc : ℕ) (fault : CodeFault) : Type 0 where
  pub stands : FaultStands funs fault
  pub function : (place_of_fault fault).0 ≡ n
  pub instruction : (place_of_fault fault).1 ≡ pc
  pub first : (other : CodeFault) → FaultStands funs other → (place_of_fault other).0 ≡ n
      → (place_of_fault other).1 ≡ pc
      → (place_of_fault fault).2 ≤ (place_of_fault other).2

-- the fault stands in function n, and none that stands in it comes before
pub record IsFaultIn (funs : List CodeFun) (n : ℕ) (fault : CodeFault) : Type 0 where
  pub stands : FaultStands funs fault
  pub function : (place_of_fault fault).0 ≡ n
  pub first : (other : CodeFault) → FaultStands funs other → (place_of_fault other).0 ≡ n
      → ¬ IsBefore (place_of_fault other) (place_of_fault fault)
