-- Patterns that were gone over, with the set of the numbers among them and two indexes of them all, which hold their
-- numbers in the list by what stands in them at one path of fields each. A layer is the outermost node of a pattern,
-- with its subpatterns below it.
use Rattle.std.specs.Prelude.{◌≡◌, ℕ, List, [], ◌∷◌, Bool, false, ◌||◌, ◌==◌}
use Rattle.rb_core.specs.declared.pattern.Pat.{Pat, out-Pat}
use Rattle.rb_core.specs.declared.pattern.Pat.TheOpen as P
use Rattle.rb_core.specs.declared.pattern.Pat.TheOpen.{Pat-F}
use Rattle.rb_matrix.specs.declared.passed.Passed.{Passed}
use Rattle.rb_matrix.specs.Known.{has}
use Rattle.rb_matrix.specs.inner.Open.{layer_open}
use Rattle.rb_matrix.specs.inner.Indexes.{AreIndexes}

-- whether a pattern, given by its layer, is number n; a wildcard, a variable or a constructor is not
abbrev pub layer_number : Pat-F Pat → ℕ → Bool
layer_number (P.Wild at) n = false
layer_number (P.Var at x) n = false
layer_number (P.Num at k) n = k == n
layer_number (P.Con at c ps) n = false

-- whether some pattern of a list is a wildcard or a variable; false where the list is empty
abbrev pub some_open : List Pat → Bool
some_open [] = false
some_open (p ∷ ps) = layer_open (out-Pat p) || some_open ps

-- whether some pattern of a list is number n itself; numbers below a constructor do not count
abbrev pub some_number : List Pat → ℕ → Bool
some_number [] n = false
some_number (p ∷ ps) n = layer_number (out-Pat p) n || some_number ps n

-- s is what is known of these patterns: whether one of them is a wildcard or a variable, the set of the numbers
-- among them, and two indexes of them
pub record ArePassed (ps : List Pat) (s : Passed) : Type 0 where
  pub all : s.all ≡ some_open ps
  pub numbers : (n : ℕ) → has s.numbers n ≡ some_number ps n
  pub indexes : AreIndexes ps s.indexes
