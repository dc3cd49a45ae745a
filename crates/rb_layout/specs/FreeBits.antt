-- The free bits of words: those that no part holds. Bits count from 0, the lowest.
use Rattle.std.specs.Prelude.{◌≡◌, ℕ, ◌<◌, Some, slice_get}
use Rattle.rb_layout.specs.declared.layout.FlatWord.{FlatWord}
use Rattle.rb_layout.specs.declared.layout.Part.{Part}
use Rattle.rb_layout.specs.A3.{IsIn}

-- i is a bit of the word, and stands in none of its parts
pub record IsFree (word : FlatWord) (i : ℕ) : Type 0 where
  pub inside : i < word.width
  pub outside : (k : ℕ) (p : Part) → slice_get word.parts k ≡ Some p → IsIn p.o p.l i → ⊥
