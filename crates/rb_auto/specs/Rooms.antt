-- The rooms of a program's types. A room says how wide the word of a type is where its layout is derived. A type
-- reaches itself where a chain of fields leads from it back to it. `kinds` says for each type, by its number, which
-- layout is derived for it, boxed or packed, if any.
use Rattle.std.specs.Prelude.{◌≡◌, ℕ, List, length, Option, Some, None, slice_get}
use Rattle.rb_core.specs.declared.types.Auto.{Auto}
use Rattle.rb_core.specs.declared.types.Auto.TheVariants.{Packed}
use Rattle.rb_core.specs.declared.program.Program.{Program}
use Rattle.rb_auto.specs.declared.room.Room.{Room}
use Rattle.rb_auto.specs.declared.room.Room.TheVariants.{Word, Recursive, Bits}
use Rattle.rb_auto.specs.Fields.{IsRecursive, IsFinite}
use Rattle.rb_auto.specs.Widths.{need}

-- the kind of layout that an entry of a type says is derived for it, if any; none where the entry is missing
abbrev pub kind_in : Option (Option Auto) → Option Auto
kind_in None = None
kind_in (Some kind) = kind

-- which kind of layout is derived for type t, if any
abbrev pub kind_of : List (Option Auto) → ℕ → Option Auto
kind_of kinds t = kind_in (slice_get kinds t)

-- a room is that of type t, where `rooms` are those of all types: a packed type reaches itself or needs so many bits;
-- any other type has a whole word
abbrev pub IsRoom : Program → List (Option Auto) → List Room → ℕ → Room → Type 0
IsRoom p kinds rooms t Word = kind_of kinds t ≡ Some Packed → ⊥
IsRoom p kinds rooms t Recursive = (kind_of kinds t ≡ Some Packed) × IsRecursive p.types t
IsRoom p kinds rooms t (Bits n) = (kind_of kinds t ≡ Some Packed) × IsFinite p.types t × (n ≡ need p rooms t)

-- a room for each type, where the need of each packed one is counted by the rooms of its fields' types
pub record AreRooms (p : Program) (kinds : List (Option Auto)) (rooms : List Room) : Type 0 where
  pub count : length rooms ≡ length p.types
  pub each : (t : ℕ) (room : Room) → slice_get rooms t ≡ Some room → IsRoom p kinds rooms t room

-- these are the rooms of a program's types, and there are no others
pub record AreTheRooms (p : Program) (kinds : List (Option Auto)) (rooms : List Room) : Type 0 where
  pub are : AreRooms p kinds rooms
  pub only : (others : List Room) → AreRooms p kinds others → others ≡ rooms
