-- What contracts see of code that grows: a sheet, the body of a function to which instructions are added one by
-- one, and in which targets are set later. A hole is the place of a target that is to be set: the number of an
-- instruction, and the number of an arm of a switch, or no arm for the target of a jump or the other target of a
-- switch; its `leaf` says nothing here.
use Rattle.std.specs.Prelude.{◌≡◌, ℕ, zero, suc, ◌+◌, ◌*◌, ◌^◌, ◌<◌, ◌≤◌, List, [], ◌∷◌, ◌++◌, length, Option, Some, None, slice_get, slice_set, Contains}
use Rattle.rb_core.specs.Limits.{most_parameters, most_words}
use Rattle.rb_target.specs.Validity.{dests}
use Rattle.rb_target.specs.declared.instr.SwitchArm.{SwitchArm}
use Rattle.rb_target.specs.declared.instr.Instr.{Instr}
use Rattle.rb_target.specs.declared.instr.Instr.TheVariants.{Jump, Switch}
use Rattle.rb_target.specs.declared.body.Hole.{Hole}
use Rattle.rb_target.specs.declared.code.CodeFun.{CodeFun}

-- the most instructions that a body may have
abbrev pub most_instrs : ℕ
most_instrs = 2 ^ 24

-- the most parameters that a body may have: a word each of the most words for the most parameters of a program's
-- function
abbrev pub most_param_words : ℕ
most_param_words = most_parameters * most_words

-- a body that grows: its instructions so far, the number of its parameters, and the number of its slots, the first of
-- which are the parameters'
pub record Sheet : Type 0 where
  pub code : List Instr
  pub params : ℕ
  pub slots : ℕ

-- what holds of every sheet: no more parameters than a body may have, slots that a word of 64 bits can count, and no
-- more instructions than a body may have
pub record SheetIsKept (params slots : ℕ) (code : List Instr) : Type 0 where
  pub few : params ≤ most_param_words
  pub small : slots < 2 ^ 64
  pub short : length code ≤ most_instrs

-- the sheet with one instruction more, at the end
abbrev pub with_more : Sheet → Instr → Sheet
with_more b i = record b { code = b.code ++ i ∷ [] }

-- the sheet with one slot more, behind the others
abbrev pub with_slot : Sheet → Sheet
with_slot b = record b { slots = b.slots + 1 }

-- the arms with t as the target of arm number k; unchanged where there is no such arm
abbrev pub with_arm_target : List SwitchArm → ℕ → ℕ → List SwitchArm
with_arm_target [] k t = []
with_arm_target (arm ∷ arms) zero t = record arm { target = t } ∷ arms
with_arm_target (arm ∷ arms) (suc k) t = arm ∷ with_arm_target arms k t

-- an instruction with t as one target: that of the arm with the number given, or without a number the target of a
-- jump or the other target of a switch, which a switch without one gets; any other instruction is unchanged, and so
-- is a switch without an arm of that number
abbrev pub with_one_target : Instr → Option ℕ → ℕ → Instr
with_one_target (Jump old) None t = Jump t
with_one_target (Switch a other arms) None t = Switch a (Some t) arms
with_one_target (Switch a other arms) (Some k) t = Switch a other (with_arm_target arms k t)
with_one_target i arm t = i

-- there is an instruction, and it has that target: without a number the target of a jump or the other target of a
-- switch that has one, with a number an arm of a switch
abbrev pub IsHoleIn : Option Instr → Option ℕ → Type 0
IsHoleIn (Some (Jump t)) None = Unit {0}
IsHoleIn (Some (Switch a (Some t) arms)) None = Unit {0}
IsHoleIn (Some (Switch a other arms)) (Some k) = k < length arms
IsHoleIn i arm = ⊥

-- the hole is the place of a target in the code
abbrev pub IsHole : List Instr → Hole → Type 0
IsHole code h = IsHoleIn (slice_get code h.pc) h.arm

-- the code with t as the target at the hole, by `with_one_target`; the instruction there is given first, and where it
-- is None the code is unchanged
abbrev pub with_instr : Option Instr → List Instr → Hole → ℕ → List Instr
with_instr None code h t = code
with_instr (Some i) code h t = slice_set code h.pc (with_one_target i h.arm t)

-- the sheet with t as the target at a hole, by `with_one_target`; unchanged where the hole's instruction is not there
abbrev pub with_target_at : Sheet → Hole → ℕ → Sheet
with_target_at b h t = record b { code = with_instr (slice_get b.code h.pc) b.code h t }

-- the function of the name given whose code the sheet is, with so many results
abbrev pub finished_function : Sheet → List ℕ → ℕ → CodeFun
finished_function b name results =
    record { name = name; params = b.params; results = results; slots = b.slots; body = b.code }

-- each slot behind the parameters, if there is one, is named by some instruction as one that it writes
abbrev pub AreWritten : Sheet → Type 0
AreWritten b = (s : ℕ) → b.params ≤ s → s < b.slots → (pc : ℕ) × (i : Instr) × (slice_get b.code pc ≡ Some i)
    × Contains (dests i) s
