-- Code that places no block and calls nothing: fetching, choosing, binding. A hole is a target of a jump or a switch
-- that is still open; its `leaf` is the number of the way out to which it belongs.
use Rattle.std.specs.Prelude.{◌≡◌, ℕ, ◌+◌, ◌≤◌, List, length, Some, slice_get}
use Rattle.rb_bytes.specs.Memory.{Memory, IsGood}
use Rattle.rb_target.specs.declared.instr.Instr.{Instr}
use Rattle.rb_target.specs.declared.body.Hole.{Hole}
use Rattle.rb_target.specs.Growth.{Nowhere, AgreesBut, Keeps}
use Rattle.rb_target.specs.Laws.{Law}
use Rattle.rb_target.specs.Meaning.{World, Next, Callee}
use Rattle.rb_target.specs.Sheet.{Sheet}
use Rattle.rb_target.specs.Targets.{target_in, IsHoleAmong, Finishes}
use Rattle.rb_fragment.specs.Plan.{Plan}
use Rattle.rb_fragment.specs.Adding.{Adds}

-- the world w' has the memory of w, as many calls left, and at most so many more switches
pub record IsLater (most : ℕ) (w w' : World) : Type 0 where
  pub memory : w'.memory ≡ w.memory
  pub left : w'.left ≡ w.left
  pub switches : w'.switches ≤ w.switches + most

-- from a number on the run comes to an instruction and slots of which Exit holds; the first n slots are kept
abbrev pub ReachesExit : Next → ℕ → ℕ → ℕ → (ℕ → List ℕ → Memory → Type 0) → List ℕ → World → Type 0
ReachesExit next start n most Exit s w =
    (pc : ℕ) × (s' : List ℕ) × (w' : World) × (next start s w ≡ next pc s' w') × Keeps n s s' × IsLater most w w'
    × Exit pc s' w.memory

-- From the end of old, where Pre holds, the run comes to Exit, with at most so many switches and the first
-- n slots kept. Of the instructions at open places nothing is assumed.
pub record CodePiece (plan : Plan) (n : ℕ) (old new : Sheet) (Open : ℕ → Type 0) (most : ℕ)
    (Pre : List ℕ → Memory → Type 0) (Exit : ℕ → List ℕ → Memory → Type 0) : Type 0 where
  pub adds : Adds plan old new
  pub low : n ≤ old.slots
  pub runs : (final : List Instr) (callee : Callee) (next : Next) → Law final callee next
      → AgreesBut final new.code (length old.code) (length new.code) Open
      → (s : List ℕ) (w : World) → new.slots ≤ length s → Pre s w.memory
      → ReachesExit next (length old.code) n most Exit s w

-- the run comes to the end of the code, where Post holds
abbrev pub AtEnd : Sheet → (List ℕ → Memory → Type 0) → ℕ → List ℕ → Memory → Type 0
AtEnd new Post pc s m = (pc ≡ length new.code) × Post s m

-- code with one way out, at its end, and no switch: where Pre holds before it, Post holds behind it
abbrev pub Straight : Plan → ℕ → Sheet → Sheet → (List ℕ → Memory → Type 0) → (List ℕ → Memory → Type 0) → Type 0
Straight plan n old new Pre Post = CodePiece plan n old new Nowhere 0 Pre (AtEnd new Post)

-- the run goes out by a hole of way k, whatever its target,
-- with Exit, at most so many switches and the first n slots kept
pub record GoesOutBy (final : List Instr) (next : Next) (holes : List Hole) (n most start : ℕ) (s : List ℕ) (w : World)
    (k : ℕ)
    (Exit : List ℕ → Memory → Type 0) : Type 0 where
  pub hole : Hole
  pub is_hole : IsHoleAmong hole holes
  pub is_way : hole.leaf ≡ k
  pub target : ℕ
  pub is_target : target_in (slice_get final hole.pc) hole.arm ≡ Some target
  pub slots : List ℕ
  pub world : World
  pub runs : next start s w ≡ next target slots world
  pub keeps : Keeps n s slots
  pub later : IsLater most w world
  pub exit : Exit slots w.memory

-- From the end of old, where Pre k holds, the run leaves by a hole of way k, whatever the targets are that
-- are open still: jumps, or arms of the switches themselves.
pub record Branches (plan : Plan) (n : ℕ) (old new : Sheet) (holes : List Hole) (most : ℕ)
    (Pre : ℕ → List ℕ → Memory → Type 0)
    (Exit : ℕ → List ℕ → Memory → Type 0) : Type 0 where
  pub adds : Adds plan old new
  pub low : n ≤ old.slots
  pub leaves : (final : List Instr) (callee : Callee) (next : Next) → Law final callee next
      → Finishes final new.code holes (length old.code) (length new.code)
      → (s : List ℕ) (w : World) (k : ℕ) → new.slots ≤ length s → IsGood w.memory → Pre k s w.memory
      → GoesOutBy final next holes n most (length old.code) s w k (Exit k)
