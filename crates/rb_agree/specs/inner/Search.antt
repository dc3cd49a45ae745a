-- Paths beside each other, and the open position at a path. An open position is a wildcard or a variable in the
-- pattern of a leaf; its path is the field numbers that lead there from the root. A position stands to the left of
-- another where its number is less at the first field in which their paths differ.
use Rattle.std.specs.Prelude.{◌≡◌, ◌≢◌, ℕ, ◌<◌, List, [], ◌∷◌, Some, slice_get, nat_lt, if◌then◌else◌}
use Rattle.rb_layout.specs.Positions.{IsLeftOf}
use Rattle.rb_layout.specs.declared.opens.OpenPosition.{OpenPosition}
use Rattle.rb_agree.specs.declared.search.Side.{Side}
use Rattle.rb_agree.specs.declared.search.Side.TheVariants.{Left, Same, Right, Along}

-- where a path stands beside another: to the left or right of it by the first field where they differ, the same, or
-- along it where one of them begins with the other
abbrev pub side_of : List ℕ → List ℕ → Side
side_of [] [] = Same
side_of [] (j ∷ q) = Along
side_of (i ∷ p) [] = Along
side_of (i ∷ p) (j ∷ q) = if nat_lt i j then Left else if nat_lt j i then Right else side_of p q

-- each of these positions stands to the left of those after it
abbrev pub AreOrdered : List OpenPosition → Type 0
AreOrdered places =
    (j k : ℕ) (a b : OpenPosition) → j < k → slice_get places j ≡ Some a → slice_get places k ≡ Some b
    → IsLeftOf a.path b.path

-- none of these positions is at the path
abbrev pub HasNone : List OpenPosition → List ℕ → Type 0
HasNone places path = (k : ℕ) (place : OpenPosition) → slice_get places k ≡ Some place → place.path ≢ path

-- there is a position with number n among these, and it is at the path
abbrev pub IsNumberOf : List OpenPosition → List ℕ → ℕ → Type 0
IsNumberOf places path n = (place : OpenPosition) × (slice_get places n ≡ Some place) × (place.path ≡ path)
