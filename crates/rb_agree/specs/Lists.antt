-- What holds of some item of a list.
use Rattle.std.specs.Prelude.{◌≡◌, ℕ, List, Some, slice_get}

-- P holds of some item of a list
abbrev pub SomeOf : {A : Type 0} → (A → Type 0) → List A → Type 0
SomeOf {A} P xs = (k : ℕ) × (x : A) × (slice_get xs k ≡ Some x) × P x
