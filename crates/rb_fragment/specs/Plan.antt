-- What code is made from, and what it may cost.
use Rattle.std.specs.Prelude.{ℕ, ◌+◌, List, [], ◌∷◌, map, Bool}
use Rattle.rb_core.specs.declared.value.Value.{Value, out-Value}
use Rattle.rb_core.specs.declared.value.Value.TheOpen as V
use Rattle.rb_core.specs.declared.value.Value.TheOpen.{Value-F}
use Rattle.rb_core.specs.declared.types.Ty.{Ty}
use Rattle.rb_core.specs.declared.outcome.Event.{Event}
use Rattle.rb_core.specs.declared.outcome.Event.TheVariants.{Built, Matched}
use Rattle.rb_core.specs.declared.program.Fun.{Fun}
use Rattle.rb_core.specs.declared.program.Program.{Program}
use Rattle.rb_bytes.specs.Memory.{Memory}
use Rattle.rb_layout.specs.declared.layout.Layout.{Layout}
use Rattle.rb_rel.specs.Relation.{Represents, Represent, word_count}
use Rattle.rb_rel.specs.Switches.{choose_of}

-- a program, its layouts, and the switches that the match at a token of a function may cost
pub record Plan : Type 0 where
  pub program : Program
  pub layouts : List Layout
  pub bound : ℕ → ℕ → ℕ

-- the words represent the value at its type, cleanly where the flag is up
abbrev pub Rep : Plan → Memory → Bool → Ty → Value → List ℕ → Type 0
Rep plan = Represents plan.program.types plan.layouts

-- the words represent the values at their types, one behind the other, cleanly where the flag is up
abbrev pub Reps : Plan → Memory → Bool → List Ty → List Value → List ℕ → Type 0
Reps plan = Represent plan.program.types plan.layouts

-- how many words represent a value of a type
abbrev pub words_needed : Plan → Ty → ℕ
words_needed plan = word_count plan.layouts

-- how many words represent a value of each of these types, in all
abbrev pub words_needed_by : Plan → List Ty → ℕ
words_needed_by plan [] = 0
words_needed_by plan (t ∷ ts) = words_needed plan t + words_needed_by plan ts

-- the types of a function's parameters, in order
abbrev pub types_of : Fun → List Ty
types_of f = map (λ p. p.ty) f.params

-- the switches that a construction of a value of data type t may cost: those that choose its leaf; 0 for a number
abbrev pub cost_of_built : List Layout → ℕ → Value-F Value → ℕ
cost_of_built layouts t (V.Num n) = 0
cost_of_built layouts t (V.Con k vs) = choose_of layouts t k

-- the switches that one event of the source's log may cost: a construction, or a match at a token of a function
abbrev pub cost_at : Plan → Event → ℕ
cost_at plan (Built t v) = cost_of_built plan.layouts t (out-Value v)
cost_at plan (Matched f at) = plan.bound f at

-- the switches that all events of the source's log may cost
abbrev pub cost_of : Plan → List Event → ℕ
cost_of plan [] = 0
cost_of plan (e ∷ log) = cost_at plan e + cost_of plan log
