-- What is still to be done while words are decoded, and what it comes to: steps, each of which visits words, whose
-- value it puts on a stack, or joins the last values there to a construction.
use Rattle.std.specs.Prelude.{◌≡◌, ℕ, ◌+◌, ◌-◌, ◌*◌, ◌<◌, ◌≤◌, List, [], ◌∷◌, ◌++◌, length, take, drop}
use Rattle.rb_core.specs.declared.value.Value.{Value, Con}
use Rattle.rb_core.specs.declared.types.Ty.TheVariants.{Named}
use Rattle.rb_core.specs.declared.program.Program.{Program}
use Rattle.rb_bytes.specs.Memory.{Memory}
use Rattle.rb_coding.specs.Decoding.{AreOf}
use Rattle.rb_coding.specs.declared.todo.Step.{Step}
use Rattle.rb_coding.specs.declared.todo.Step.TheVariants.{Visit, Join}

-- one step on a stack of values, `old` before it and `new` after it: it puts on it a value that the words represent,
-- or joins the last so many values on it, which must be there
abbrev pub After : Program → Memory → Step → List Value → List Value → Type 0
After p m (Visit ty ws) old new = (v : Value) × AreOf p m ty ws v × (new ≡ old ++ v ∷ [])
After p m (Join k count) old new =
    (count ≤ length old) × (new ≡ take (length old - count) old ++ Con k (drop (length old - count) old) ∷ [])

-- what these steps make of a stack of values, where the last step is done first
abbrev pub Runs : Program → Memory → List Step → List Value → List Value → Type 0
Runs p m [] old new = old ≡ new
Runs p m (s ∷ ss) old new = (mid : List Value) × Runs p m ss old mid × After p m s mid new

-- how much a step counts among what is left to do: more for a visit, which may become a join and more visits
abbrev pub weight : Step → ℕ
weight (Visit ty ws) = 2
weight (Join k count) = 1

-- how much these steps count together
abbrev pub weights : List Step → ℕ
weights [] = 0
weights (s ∷ ss) = weight s + weights ss

-- to the steps `old` some are added, which gives `new`, that put the value of these words, at data type number t, on
-- the stack; they count less than if all were visits, so one of them is a join
abbrev pub IsOpened : Program → Memory → ℕ → List ℕ → List Step → List Step → Type 0
IsOpened p m t ws old new = (v : Value) → AreOf p m (Named t) ws v
    → (steps : List Step) × (new ≡ old ++ steps) × ((done : List Value) → Runs p m steps done (done ++ v ∷ []))
    × (weights steps < 2 * length steps)
