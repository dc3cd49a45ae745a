-- What a run owes to the source.
use Rattle.std.specs.Prelude.{◌≡◌, ℕ, ◌+◌, ◌≤◌, Bool, List, Some, slice_get}
use Rattle.rb_core.specs.declared.value.Value.{Value}
use Rattle.rb_core.specs.declared.types.Ty.{Ty}
use Rattle.rb_core.specs.declared.program.Fun.{Fun}
use Rattle.rb_core.specs.declared.outcome.SourceEnd.{SourceEnd}
use Rattle.rb_core.specs.declared.outcome.SourceEnd.TheVariants.{Done, Spent as Stopped}
use Rattle.rb_core.specs.declared.outcome.Outcome.{Outcome}
use Rattle.rb_core.specs.Meaning.{Calls}
use Rattle.rb_bytes.specs.Memory.{Memory, IsGood}
use Rattle.rb_bytes.specs.Growth.{Grown}
use Rattle.rb_target.specs.declared.outcome.End.TheVariants.{Returned, Spent, Full}
use Rattle.rb_target.specs.Meaning.{World, CallEnd as Run, Callee, over}
use Rattle.rb_rel.specs.Placing.{Laid, Fits, Over, requests_of, lay}
use Rattle.rb_fragment.specs.Plan.{Plan, Rep, Reps, cost_of, types_of}

-- A run from a memory, where the blocks of the source's log are laid like this and the source ends so. A
-- block that doesn't fit is asked for in vain; where the source's calls are spent, the run's are; and with
-- a value the memory has exactly the log's blocks more, as many calls are left, and Ok holds of the value
-- and the world then. In each case there are at most so many switches.
abbrev pub Ends : ℕ → Run → Memory → Laid → SourceEnd → (Value → World → Type 0) → Type 0
Ends most out m (Over full) e Ok = (w : World) × (out ≡ over (Full full) w) × (w.switches ≤ most)
Ends most out m (Fits blocks p) Stopped Ok = (w : World) × (out ≡ over Spent w) × (w.switches ≤ most)
Ends most out m (Fits blocks p) (Done v left) Ok =
    (w : World) × Grown m w.memory blocks p × (w.left ≡ left) × (w.switches ≤ most) × Ok v w

-- a run from a memory, with so many switches behind it, does what the source does
abbrev pub Does : Plan → ℕ → Run → Memory → Outcome → (Value → World → Type 0) → Type 0
Does plan base out m o Ok =
    Ends (base + cost_of plan o.log) out m (lay m.limit m.next (requests_of plan.layouts o.log)) o.end Ok

-- the run returns words that represent the value
abbrev pub GivesValue : Plan → Bool → Ty → Run → Value → World → Type 0
GivesValue plan clean t out v w =
    (words : List ℕ) × (out ≡ over (Returned words w.left) w) × Rep plan w.memory clean t v words

-- the code's calls do what the source's do: for each function of the program and represented arguments
abbrev pub CallsAgree : Plan → Calls → Callee → Type 0
CallsAgree plan calls callee =
    (clean : Bool) (g : ℕ) (f : Fun) (vs : List Value) (ws : List ℕ) (w : World)
    → slice_get plan.program.funs g ≡ Some f
    → IsGood w.memory → Reps plan w.memory clean (types_of f) vs ws
    → Does plan w.switches (callee g ws w) w.memory (calls g w.left vs)
    (GivesValue plan clean f.result (callee g ws w))
