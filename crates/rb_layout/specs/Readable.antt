-- Leaves whose words are few and short, so that bits and bytes in them can be counted.
use Rattle.std.specs.Prelude.{◌≡◌, ℕ, ◌≤◌, length, List, Option, Some, slice_get}
use Rattle.rb_layout.specs.declared.layout.Leaf.{Leaf}
use Rattle.rb_layout.specs.declared.layout.FlatWord.{FlatWord}
use Rattle.rb_layout.specs.Words.{words_in}

-- words are few and short: at most 64 of them, each of at most 64 bits
pub record AreShort (words : List FlatWord) : Type 0 where
  pub few : length words ≤ 64
  pub short : (k : ℕ) (f : FlatWord) → slice_get words k ≡ Some f → f.width ≤ 64

-- The root words of a leaf and those of each block are few and short. A number with no block has no words, of which
-- nothing is asked.
pub record IsReadable (leaf : Leaf) : Type 0 where
  pub words : (b : Option ℕ) → AreShort (words_in leaf b)
