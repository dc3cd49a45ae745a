-- What a run promises. A run is of a function of the code, on words, its arguments, over a memory. Its outcome, by
-- the code's meaning, is how it ended and the world then: the memory, how many switches were done and how many
-- instructions were taken, that is, begun. It is trapped where a load or a store fails or a switch has no arm for its
-- word.
use Rattle.std.specs.Prelude.{◌≡◌, ℕ, ◌+◌, Option, Some, None}
use Rattle.rb_bytes.specs.Memory.{Memory}
use Rattle.rb_target.specs.Meaning.{CallEnd}
use Rattle.rb_target.specs.declared.code.CodeFun.{CodeFun}
use Rattle.rb_target.specs.declared.outcome.End.{End}
use Rattle.rb_target.specs.declared.outcome.End.TheVariants.{Trapped}
use Rattle.rb_target.specs.declared.outcome.Ran.{Ran}

-- a run with this end was not trapped
abbrev pub IsNotTrapped : End → Type 0
IsNotTrapped (Trapped t) = ⊥
IsNotTrapped e = Unit {0}

-- how many words a function takes; 0 where there is no such function
abbrev pub params_in : Option CodeFun → ℕ
params_in None = 0
params_in (Some f) = f.params

-- what a run gives is what the code means, the outcome o: its end, its switches, the memory m that it leaves, and a
-- step for each instruction, where `before` and `after` count the steps before the run and after it
pub record RanAs (o : CallEnd) (ran : Ran) (m : Memory) (before after : ℕ) : Type 0 where
  pub ended : ran.end ≡ o.ended
  pub switches : ran.switches ≡ o.world.switches
  pub memory : m ≡ o.world.memory
  pub taken : after ≡ before + o.world.taken
