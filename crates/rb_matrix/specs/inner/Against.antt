-- Patterns that another is held against: which of them share no value with it, which match all that it matches, and
-- which rows of one pattern each may stand for them in a search. Nothing is asked here of the types of patterns or
-- values. The first pattern of a list has number 0.
use Rattle.std.specs.Prelude.{◌≡◌, ◌<◌, ℕ, List, [], ◌∷◌, Contains, true, Some, slice_get}
use Rattle.rb_core.specs.declared.value.Value.{Value}
use Rattle.rb_core.specs.declared.pattern.Pat.{Pat}
use Rattle.rb_core.specs.Matching.{matches_of, clause_matches}
use Rattle.rb_matrix.specs.Apart.{PatternsAreApart}
pub use Rattle.rb_matrix.specs.Covering.{Covers}
use Rattle.rb_matrix.specs.Rows.{row_matches, any_row}
use Rattle.rb_matrix.specs.inner.OneColumn.{any_matches}

-- in some one place of both lists stand two patterns that no value matches both
abbrev pub HaveApart : List Pat → List Pat → Type 0
HaveApart ps qs =
    (i : ℕ) × (p : Pat) × (q : Pat) × (slice_get ps i ≡ Some p) × (slice_get qs i ≡ Some q) × PatternsAreApart p q

-- row ps matches each vector that row qs matches
abbrev pub CoverEach : List Pat → List Pat → Type 0
CoverEach ps qs = (vs : List Value) → row_matches qs vs ≡ true → row_matches ps vs ≡ true

-- each of the first i patterns of ps matches each value that the one in its place in qs does; places that one of
-- the lists does not have do not count
abbrev pub AreCovered : ℕ → List Pat → List Pat → Type 0
AreCovered i ps qs = (k : ℕ) (p q : Pat) → k < i → slice_get ps k ≡ Some p → slice_get qs k ≡ Some q → Covers p q

-- each value that p matches is matched by some pattern of the list; of the empty list it is not so
abbrev pub IsCovered : Pat → List Pat → Type 0
IsCovered p ps = (v : Value) → matches_of p v ≡ true → any_matches ps v ≡ true

-- rows that stand, over vectors of one value, for those patterns of ps that have the numbers js: each value that a
-- row matches is matched by some pattern of ps, and of the values that p matches, the rows match each that a
-- pattern with one of these numbers matches; a number without a pattern does not count
pub record AreRowsNear (p : Pat) (ps : List Pat) (js : List ℕ) (rows : List (List Pat)) : Type 0 where
  pub among : (v : Value) → any_row rows (v ∷ []) ≡ true → any_matches ps v ≡ true
  pub each : (v : Value) → matches_of p v ≡ true
      → (j : ℕ) → Contains js j → clause_matches ps j v ≡ true → any_row rows (v ∷ []) ≡ true

-- of the values that p matches, the rows match, each value alone as a vector, exactly those that some pattern of ps
-- matches
abbrev pub StandFor : Pat → List Pat → List (List Pat) → Type 0
StandFor p ps rows = (v : Value) → matches_of p v ≡ true → any_row rows (v ∷ []) ≡ any_matches ps v
