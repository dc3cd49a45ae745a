-- How the checker finds the types that have values: it marks a type once a constructor of it has
-- fields of marked types alone. What this finds is stated by values, in `TypedPrograms`.
use Rattle.std.specs.Prelude.{◌≡◌, ℕ, ◌<◌, List, length, Bool, true, false, Some, slice_get, unwrap_or}
use Rattle.std.specs.List.{list_any, list_all}
use Rattle.rb_core.specs.declared.types.Ty.{Ty}
use Rattle.rb_core.specs.declared.types.Ty.TheVariants.{Int, Named}
use Rattle.rb_core.specs.declared.types.Con.{Con}
use Rattle.rb_core.specs.declared.types.DataDecl.{DataDecl}

-- the mark of a type; off where it has none
abbrev pub mark_of : List Bool → ℕ → Bool
mark_of marks t = unwrap_or (slice_get marks t) false

-- a type is known to have a value: each integer type, and a marked data type
abbrev pub is_marked : List Bool → Ty → Bool
is_marked marks (Int bits) = true
is_marked marks (Named t) = mark_of marks t

-- all fields of a constructor are of types that are known to have values
abbrev pub constructor_is_live : List Bool → Con → Bool
constructor_is_live marks c = list_all (is_marked marks) c.fields

-- some constructor of a data type has only fields of types that are known to have values, so it has a value, too
abbrev pub type_is_live : List Bool → DataDecl → Bool
type_is_live marks d = list_any (constructor_is_live marks) d.cons

-- type t is to be marked: it has no mark, and some constructor of it has only fields of types known to have values
pub record IsNewlyLive (types : List DataDecl) (marks : List Bool) (t : ℕ) : Type 0 where
  pub data_type : DataDecl
  pub there : slice_get types t ≡ Some data_type
  pub unmarked : mark_of marks t ≡ false
  pub live : type_is_live marks data_type ≡ true

-- no type is left to be marked: none without a mark has a constructor with only fields of types known to have values
abbrev pub IsSettled : List DataDecl → List Bool → Type 0
IsSettled types marks =
    (t : ℕ) (d : DataDecl) → slice_get types t ≡ Some d → mark_of marks t ≡ false → type_is_live marks d ≡ false

-- t is the number of the first type without a mark
pub record IsFirstUnmarked (marks : List Bool) (t : ℕ) : Type 0 where
  pub within : t < length marks
  pub unmarked : mark_of marks t ≡ false
  pub before : (s : ℕ) → s < t → mark_of marks s ≡ true

-- the mark of each type is on
abbrev pub AllMarked : List Bool → Type 0
AllMarked marks = (s : ℕ) → s < length marks → mark_of marks s ≡ true
