-- When code does what other code does, with no more instructions. A run is of a function, by its number from 0, on
-- words, its arguments, over a memory and with a number of calls left. Its outcome is how it ended and the world
-- then: the calls left, the memory, and how many switches were done and instructions taken, that is, begun.
use Rattle.std.specs.Prelude.{◌≡◌, ℕ, ◌≤◌, List, length, Some, slice_get}
use Rattle.rb_bytes.specs.Memory.{Memory}
use Rattle.rb_target.specs.declared.code.CodeFun.{CodeFun}
use Rattle.rb_target.specs.Meaning.{CallEnd, run_of}

-- the new run has the same end, calls left and memory as the old one, after no more switches and no more instructions
pub record IsNoDearer (new old : CallEnd) : Type 0 where
  pub ended : new.ended ≡ old.ended
  pub left : new.world.left ≡ old.world.left
  pub memory : new.world.memory ≡ old.world.memory
  pub switches : new.world.switches ≤ old.world.switches
  pub taken : new.world.taken ≤ old.world.taken

-- the function q has the name of f, and as many words as parameters and results
pub record HasSameHead (f q : CodeFun) : Type 0 where
  pub name : q.name ≡ f.name
  pub params : q.params ≡ f.params
  pub results : q.results ≡ f.results

-- the new functions have the heads of the old ones, and each run is no dearer: of any function, by its number g, on
-- any words ws that it takes, over any memory m and with any number n of calls
pub record IsTrimOf (old new : List CodeFun) : Type 0 where
  pub count : length new ≡ length old
  pub heads : (g : ℕ) (f : CodeFun) → slice_get old g ≡ Some f → (q : CodeFun) × (slice_get new g ≡ Some q)
      × HasSameHead f q
  pub runs : (g : ℕ) (f : CodeFun) (n : ℕ) (ws : List ℕ) (m : Memory) → slice_get old g ≡ Some f → length ws ≡ f.params
      → IsNoDearer (run_of new n g ws m) (run_of old n g ws m)
