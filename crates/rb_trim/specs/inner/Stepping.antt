-- Words for the parts of a walk through a body, which makes the shorter body instruction by instruction. Hints h tell
-- what is left out, and by which new numbers slots and instructions go: the place of an instruction is its number in
-- the shorter body. They say of each instruction which slots are read from it on, which facts hold before it, that
-- is, what slots hold, and whether a run may come to it. `pc` and t are numbers of instructions of the old body; i is
-- instruction pc. Behind it is where the run goes on after it, by one of its ways: to the next one or to a target.
use Rattle.std.specs.Prelude.{◌≡◌, ℕ, ◌+◌, ◌^◌, ◌<◌, ◌≤◌, ◌⊎◌, List, [], ◌∷◌, ◌++◌, length, Some, slice_get, Any}
use Rattle.rb_bits.specs.Words.{IsRange}
use Rattle.rb_target.specs.Validity.{SlotsFit, TargetsFit, EndsInReturn, dest_count}
use Rattle.rb_target.specs.declared.instr.SwitchArm.{SwitchArm}
use Rattle.rb_target.specs.declared.instr.Instr.{Instr}
use Rattle.rb_target.specs.declared.instr.Instr.TheVariants.{Const, Alu, Take}
use Rattle.rb_target.specs.declared.code.CodeFun.{CodeFun}
use Rattle.rb_trim.specs.declared.hints.Hints.{Hints}
use Rattle.rb_trim.specs.inner.Following.{Sets}
use Rattle.rb_trim.specs.inner.Moving.{place, tells, IsUnread, EndsWell, FallsOn, JumpsOn, StandsFor, IsSkipped, IsStep, IsTrimmed, LeadsAhead, ComesBack}

-- the slot at index k of the list, if there is one, is set by the instruction, or not read from instruction t on
pub record LivesAt (h : Hints) (slots : List ℕ) (i : Instr) (t k : ℕ) : Type 0 where
  pub at : (slot : ℕ) → slice_get slots k ≡ Some slot → Sets i slot ⊎ IsUnread h t slot

-- the arm at index k, if there is one, of the switch i on slot a may lead to its target: what the hints say of that
-- holds there, where slot a holds the arm's number
pub record JumpsOnAt (h : Hints) (pc : ℕ) (i : Instr) (a : ℕ) (arms : List SwitchArm) (k : ℕ) : Type 0 where
  pub at : (arm : SwitchArm) → slice_get arms k ≡ Some arm → JumpsOn h pc i (tells a arm.number) arm.target

-- the arm at index k, if there is one, leads to a return at once, and `words` are the new numbers of what it returns
pub record ComesBackAt (h : Hints) (body : List Instr) (words : List ℕ) (arms : List SwitchArm) (k : ℕ) : Type 0 where
  pub at : (arm : SwitchArm) → slice_get arms k ≡ Some arm → ComesBack h body words arm.target

-- a switch has an arm for the number
abbrev pub HasArm : List SwitchArm → ℕ → Type 0
HasArm arms number = Any (λ (arm : SwitchArm). arm.number ≡ number) arms

-- what the hints say of an instruction holds of each to which a run may go on from instruction pc; nothing is said
-- behind a return
abbrev pub IsKnownOn : Hints → ℕ → Instr → Type 0
IsKnownOn h pc i = LeadsAhead (FallsOn h pc i) (JumpsOn h pc i) i pc

-- `new` is `old` and behind it an instruction that stands for instruction pc, in its place
pub record IsAppended (h : Hints) (body : List Instr) (pc : ℕ) (i : Instr) (old new : List Instr) : Type 0 where
  pub here : place h pc ≡ length old
  pub instr : Instr
  pub more : new ≡ old ++ instr ∷ []
  pub for : StandsFor h body pc i instr

-- one step of the walk: to the new body is added what stands for instruction pc, or nothing if it is left out, and
-- what the hints say of it is right
pub record Steps (h : Hints) (body : List Instr) (pc : ℕ) (i : Instr) (old new : List Instr) : Type 0 where
  pub stands : IsAppended h body pc i old new ⊎ (IsSkipped h pc i × (new ≡ old))
  pub ends : EndsWell h pc i
  pub known : IsKnownOn h pc i

-- each instruction of the new body stands for one of the old body
abbrev pub HaveOrigins : Hints → List Instr → List Instr → Type 0
HaveOrigins h body new =
    (at : ℕ) (j : Instr) → slice_get new at ≡ Some j
    → (pc : ℕ) × (i : Instr) × (slice_get body pc ≡ Some i) × StandsFor h body pc i j

-- the first `count` instructions of a body are gone through, and `new` has what stands for them
pub record Walks (h : Hints) (body : List Instr) (count : ℕ) (new : List Instr) : Type 0 where
  pub steps : (pc : ℕ) (i : Instr) → pc < count → slice_get body pc ≡ Some i → IsStep h body new pc i
  pub origins : HaveOrigins h body new

-- the numbers in an instruction that may be made anew from facts are within their bounds: a constant is a word, an
-- operation has 1 to 64 bits, and a range of bits lies in a word; nothing is said of other instructions
abbrev pub IsRanged : Instr → Type 0
IsRanged (Const d c) = c < 2 ^ 64
IsRanged (Alu op n d a b) = (1 ≤ n) × (n ≤ 64)
IsRanged (Take d a o l) = IsRange o l
IsRanged i = Unit {0}

-- the slots, targets and numbers of instruction pc, if there is one, fit a body with so many slots
pub record FitsAt (slots : ℕ) (body : List Instr) (pc : ℕ) : Type 0 where
  pub at : (i : Instr) → slice_get body pc ≡ Some i → SlotsFit slots i × TargetsFit (length body) pc i × IsRanged i

-- a body fits a function with so many slots and so many parameters: its slots, its targets and the numbers in its
-- instructions are within their bounds, and it ends in a return
pub record IsFit (slots params : ℕ) (body : List Instr) : Type 0 where
  pub small : (slots < 2 ^ 64) × (length body < 2 ^ 64)
  pub enough : params ≤ slots
  pub written : slots ≤ params + dest_count body
  pub ends : EndsInReturn body
  pub each : (pc : ℕ) → pc < length body → FitsAt slots body pc

-- each of the first `count` functions has in `new`, at its number, one that does what it does; `new` has no others
pub record AreTrimmed (funs : List CodeFun) (count : ℕ) (new : List CodeFun) : Type 0 where
  pub long : length new ≡ count
  pub each : (g : ℕ) (f : CodeFun) → g < count → slice_get funs g ≡ Some f → (q : CodeFun)
      × (slice_get new g ≡ Some q) × IsTrimmed f q
