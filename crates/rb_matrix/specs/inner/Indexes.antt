-- Two indexes of the same patterns. An index holds the numbers of patterns, by the number or constructor that stands
-- in them at one path of fields; each of the two has a path of its own.
use Rattle.std.specs.Prelude.{◌≡◌, ℕ, List, length, Contains, Some, slice_get, ◌⊎◌}
use Rattle.rb_core.specs.declared.pattern.Pat.{Pat}
use Rattle.rb_matrix.specs.declared.indexes.Indexes.{Indexes}
use Rattle.rb_matrix.specs.Apart.{PatternsAreApart}
use Rattle.rb_matrix.specs.inner.Index.{IsIndex, ExtendsIndex}

-- both are indexes of these patterns
pub record AreIndexes (ps : List Pat) (x : Indexes) : Type 0 where
  pub first : IsIndex ps x.first
  pub second : IsIndex ps x.second

-- wherever the two old indexes are of i patterns, the two new ones are of these and of p behind them
pub record BothExtend (i : ℕ) (p : Pat) (old new : Indexes) : Type 0 where
  pub first : ExtendsIndex i p old.first new.first
  pub second : ExtendsIndex i p old.second new.second

-- wherever the two are indexes of n patterns, each of them has its number among js, or no value matches both it and
-- p
abbrev pub AreNearIn : Pat → ℕ → Indexes → List ℕ → Type 0
AreNearIn p n x js = (ps : List Pat) → length ps ≡ n → AreIndexes ps x
    → (j : ℕ) (q : Pat) → slice_get ps j ≡ Some q → Contains js j ⊎ PatternsAreApart q p
