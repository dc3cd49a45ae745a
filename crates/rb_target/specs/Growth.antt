-- Code that grows and code that is finished; slots that are kept. Code is a list of instructions, and a place in it
-- the number of an instruction, from 0. A place is open while the target of its jump or switch is not known.
use Rattle.std.specs.Prelude.{◌≡◌, ℕ, ◌<◌, ◌≤◌, List, length, slice_get, slice_index}
use Rattle.rb_target.specs.declared.instr.Instr.{Instr}

-- the new code has the old instructions at their places, with others behind them or none
pub record Grows (old new : List Instr) : Type 0 where
  pub longer : length old ≤ length new
  pub same : (pc : ℕ) → pc < length old → slice_get new pc ≡ slice_get old pc

-- the set of open places in which there is none
abbrev pub Nowhere : ℕ → Type 0
Nowhere pc = ⊥

-- the finished code has, at each place from a up to b that is not open, what this code has there; at open places it
-- may have anything
pub record AgreesBut (final code : List Instr) (a b : ℕ) (Open : ℕ → Type 0) : Type 0 where
  pub same : (pc : ℕ) → a ≤ pc → pc < b → (Open pc → ⊥) → slice_get final pc ≡ slice_get code pc

-- the slots s' are as many as the slots s, and the first n of them, or all where there are fewer, hold the same words
pub record Keeps (n : ℕ) (s s' : List ℕ) : Type 0 where
  pub long : length s' ≡ length s
  pub same : (k : ℕ) → k < n → slice_index s' k ≡ slice_index s k
