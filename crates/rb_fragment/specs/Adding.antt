-- What appended code is: apart from what it does.
use Rattle.std.specs.Prelude.{◌≡◌, ℕ, ◌+◌, ◌<◌, ◌≤◌, List, length, Some, Contains, slice_get}
use Rattle.rb_core.specs.declared.program.Fun.{Fun}
use Rattle.rb_target.specs.declared.instr.Instr.{Instr}
use Rattle.rb_target.specs.declared.instr.Instr.TheVariants.{Call, Return}
use Rattle.rb_target.specs.Growth.{Grows}
use Rattle.rb_target.specs.Sheet.{Sheet}
use Rattle.rb_target.specs.Validity.{IsBounded, SlotsFit, TargetsFit, dests}
use Rattle.rb_fragment.specs.Plan.{Plan, words_needed, words_needed_by, types_of}

-- a call has the words of its function's parameters and result; there is no return yet
abbrev pub CallsWell : Plan → Instr → Type 0
CallsWell plan (Call g ds froms) =
    (f : Fun) × (slice_get plan.program.funs g ≡ Some f) × (length ds ≡ words_needed plan f.result)
    × (length froms ≡ words_needed_by plan (types_of f))
CallsWell plan (Return froms) = ⊥
CallsWell plan i = Unit {0}

-- an instruction of code of so many slots and instructions: its targets lie within, or right behind
pub record IsFitting (plan : Plan) (slots long pc : ℕ) (i : Instr) : Type 0 where
  pub bounded : IsBounded i
  pub slots_fit : SlotsFit slots i
  pub targets : TargetsFit (long + 1) pc i
  pub calls : CallsWell plan i

-- an instruction from number a on writes the slot
abbrev pub IsWrittenFrom : List Instr → ℕ → ℕ → Type 0
IsWrittenFrom code a s = (pc : ℕ) × (i : Instr) × (a ≤ pc) × (slice_get code pc ≡ Some i) × Contains (dests i) s

-- instructions and slots are appended; each new slot is written, and each new instruction is fitting
pub record Adds (plan : Plan) (old new : Sheet) : Type 0 where
  pub grows : Grows old.code new.code
  pub more : old.slots ≤ new.slots
  pub params : new.params ≡ old.params
  pub written : (s : ℕ) → old.slots ≤ s → s < new.slots → IsWrittenFrom new.code (length old.code) s
  pub fine : (pc : ℕ) (i : Instr) → length old.code ≤ pc → slice_get new.code pc ≡ Some i
      → IsFitting plan new.slots (length new.code) pc i
