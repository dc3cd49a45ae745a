-- Indexes: the numbers of patterns, by what stands in the patterns at one path, so that a pattern need not be held
-- against those that have something else there. A path is a list of fields, from the outside in; the empty path leads
-- to the value or the pattern itself. A pattern's key is the number that stands in it at the path, or that of the
-- constructor that does, if one of them does; a group is the numbers of the patterns that have one key. A layer is
-- the outermost node of a value, with its subvalues below it.
use Rattle.std.specs.Prelude.{◌≡◌, ℕ, List, [], ◌∷◌, ◌++◌, length, Contains, true, Some, slice_get, slice_index_or, ◌⊎◌}
use Rattle.rb_core.specs.declared.value.Value.{Value, out-Value}
use Rattle.rb_core.specs.declared.value.Value.TheOpen as V
use Rattle.rb_core.specs.declared.value.Value.TheOpen.{Value-F}
use Rattle.rb_core.specs.declared.pattern.Pat.{Pat}
use Rattle.rb_core.specs.Matching.{matches_of}
use Rattle.rb_core.specs.Values.{subs}
use Rattle.rb_matrix.specs.declared.index.Index.{Index}
use Rattle.rb_matrix.specs.Apart.{PatternsAreApart}
use Rattle.rb_matrix.specs.inner.Groups.{numbers_with}

-- the number that a value, given by its layer, is, or that of its constructor in its type
abbrev pub head_number : Value-F Value → ℕ
head_number (V.Num n) = n
head_number (V.Con k vs) = k

-- the number of what stands in a value at a path of fields, or that of its constructor; a field that a value does
-- not have is passed over, and the path goes on from the value itself
abbrev pub key_of : Value → List ℕ → ℕ
key_of v [] = head_number (out-Value v)
key_of v (i ∷ path) = key_of (slice_index_or (subs v) i v) path

-- k may serve as the key of p: each value that p matches has this number at the path
abbrev pub HasKey : Pat → List ℕ → ℕ → Type 0
HasKey p path k = (v : Value) → matches_of p v ≡ true → key_of v path ≡ k

-- number j stands in the group of key k; where there is no such group, no number does
abbrev pub IsInGroup : Index → ℕ → ℕ → Type 0
IsInGroup x k j = Contains (numbers_with x.numbers k) j

-- pattern p, with number j, stands among those without a key, or in the group of a key that it has
abbrev pub IsIndexed : Index → ℕ → Pat → Type 0
IsIndexed x j p = Contains x.numbers.keyless j ⊎ ((k : ℕ) × HasKey p x.path k × IsInGroup x k j)

-- x is an index of these patterns: each has its place among the numbers in x, which may hold other numbers too
abbrev pub IsIndex : List Pat → Index → Type 0
IsIndex ps x = (j : ℕ) (p : Pat) → slice_get ps j ≡ Some p → IsIndexed x j p

-- wherever the old index is one of i patterns, the new one is an index of these and of p behind them
abbrev pub ExtendsIndex : ℕ → Pat → Index → Index → Type 0
ExtendsIndex i p old new = (ps : List Pat) → length ps ≡ i → IsIndex ps old → IsIndex (ps ++ p ∷ []) new

-- wherever x is an index of n patterns, each of them has its number among js, or no value matches both it and p
abbrev pub AreNear : Pat → ℕ → Index → List ℕ → Type 0
AreNear p n x js = (ps : List Pat) → length ps ≡ n → IsIndex ps x
    → (j : ℕ) (q : Pat) → slice_get ps j ≡ Some q → Contains js j ⊎ PatternsAreApart q p
