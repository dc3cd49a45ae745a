-- Instructions apart from their targets, and code of which some targets are still open.
--
-- `pc` is the number of an instruction in its code. `arm` says which target of an instruction is meant: None, that of
-- a jump or the other one of a switch, or the index of one of a switch's arms. A hole names a target that is still
-- open, by `pc` and `arm`. A sheet is the code of one function while it is made, with its numbers of parameters and
-- slots.
use Rattle.std.specs.Prelude.{◌≡◌, ◌≢◌, ℕ, ◌<◌, ◌≤◌, List, [], map, length, Option, Some, None, slice_get}
use Rattle.rb_target.specs.declared.instr.SwitchArm.{SwitchArm}
use Rattle.rb_target.specs.declared.instr.Instr.{Instr}
use Rattle.rb_target.specs.declared.instr.Instr.TheVariants.{Jump, Switch}
use Rattle.rb_target.specs.declared.body.Hole.{Hole}
use Rattle.rb_target.specs.Sheet.{Sheet}
use Rattle.rb_target.specs.Validity.{dests}

-- an arm with 0 in place of its target
abbrev pub without_target : SwitchArm → SwitchArm
without_target arm = record arm { target = 0 }

-- a switch's other target, if it has one, with 0 in its place
abbrev pub no_target : Option ℕ → Option ℕ
no_target None = None
no_target (Some t) = Some 0

-- an instruction with 0 in place of each of its targets; one without targets is itself
abbrev pub without_targets : Instr → Instr
without_targets (Jump t) = Jump 0
without_targets (Switch a other arms) = Switch a (no_target other) (map without_target arms)
without_targets i = i

-- the shape of an instruction, if there is one
abbrev pub without_targets_in : Option Instr → Option Instr
without_targets_in None = None
without_targets_in (Some i) = Some (without_targets i)

-- the target of an arm, if there is one
abbrev pub arm_target : Option SwitchArm → Option ℕ
arm_target None = None
arm_target (Some arm) = Some arm.target

-- the target of an instruction at an arm's index, or at None; None where the instruction has no such target
abbrev pub target_at : Instr → Option ℕ → Option ℕ
target_at (Jump t) None = Some t
target_at (Switch a other arms) None = other
target_at (Switch a other arms) (Some k) = arm_target (slice_get arms k)
target_at i arm = None

-- the target of an instruction, if there is one, at an arm's index, or at None; else None
abbrev pub target_in : Option Instr → Option ℕ → Option ℕ
target_in None arm = None
target_in (Some i) arm = target_at i arm

-- the slots that an instruction writes, if there is one; else none
abbrev pub dests_in : Option Instr → List ℕ
dests_in None = []
dests_in (Some i) = dests i

-- the hole is one of these holes
abbrev pub IsHoleAmong : Hole → List Hole → Type 0
IsHoleAmong h hs = (k : ℕ) × (slice_get hs k ≡ Some h)

-- this target of the instruction `pc` is open: one of the holes names it
abbrev pub IsOpenTarget : List Hole → ℕ → Option ℕ → Type 0
IsOpenTarget hs pc arm = (h : Hole) × IsHoleAmong h hs × (h.pc ≡ pc) × (h.arm ≡ arm)

-- At `pc` the finished code has the instruction that this code has, or neither has one. Those of its targets that a
-- hole names may differ; where no hole names one it is the very same.
pub record AgreesAt (final code : List Instr) (hs : List Hole) (pc : ℕ) : Type 0 where
  pub same : ((arm : Option ℕ) → IsOpenTarget hs pc arm → ⊥) → slice_get final pc ≡ slice_get code pc
  pub shapes : without_targets_in (slice_get final pc) ≡ without_targets_in (slice_get code pc)
  pub targets : (arm : Option ℕ) → (IsOpenTarget hs pc arm → ⊥)
      → target_in (slice_get final pc) arm ≡ target_in (slice_get code pc) arm

-- at each place from a up to b the finished code is this code, but for the targets that a hole names, which may be
-- anything
abbrev pub Finishes : List Instr → List Instr → List Hole → ℕ → ℕ → Type 0
Finishes final code hs a b = (pc : ℕ) → a ≤ pc → pc < b → AgreesAt final code hs pc

-- the sheet c is the sheet b with the target t at the hole h, and nothing else changed
pub record SetsTarget (b : Sheet) (h : Hole) (t : ℕ) (c : Sheet) : Type 0 where
  -- no instruction comes or goes
  pub long : length c.code ≡ length b.code
  pub target : target_in (slice_get c.code h.pc) h.arm ≡ Some t
  -- the hole's instruction has its other targets as before, and all that is no target
  pub others : (arm : Option ℕ) → arm ≢ h.arm
      → target_in (slice_get c.code h.pc) arm ≡ target_in (slice_get b.code h.pc) arm
  pub shapes : without_targets_in (slice_get c.code h.pc) ≡ without_targets_in (slice_get b.code h.pc)
  -- other instructions are the same
  pub elsewhere : (pc : ℕ) → pc ≢ h.pc → slice_get c.code pc ≡ slice_get b.code pc
  -- each instruction writes the same slots, and there are as many parameters and slots
  pub written : (pc : ℕ) → dests_in (slice_get c.code pc) ≡ dests_in (slice_get b.code pc)
  pub slots : (c.params ≡ b.params) × (c.slots ≡ b.slots)
