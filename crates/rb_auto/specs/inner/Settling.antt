-- Rooms that are known so far. A type's room is settled where it is known; a type whose room is not has an empty
-- entry. A room says how wide the word of a type is where its layout is derived. `kinds` says for each type, by its
-- number, which layout is derived for it, boxed or packed, if any.
use Rattle.std.specs.Prelude.{◌≡◌, ℕ, List, length, Option, Some, None, slice_get}
use Rattle.rb_core.specs.declared.types.Auto.{Auto}
use Rattle.rb_core.specs.declared.types.Auto.TheVariants.{Packed}
use Rattle.rb_core.specs.declared.program.Program.{Program}
use Rattle.rb_auto.specs.declared.room.Room.{Room}
use Rattle.rb_auto.specs.Fields.{IsFinite}
use Rattle.rb_auto.specs.Rooms.{kind_of, IsRoom, AreRooms}

-- rooms of all types are, wherever a type's room is settled, that room
abbrev pub ExtendsSettled : List (Option Room) → List Room → Type 0
ExtendsSettled settled rooms =
    (t : ℕ) (room : Room) → slice_get settled t ≡ Some (Some room) → slice_get rooms t ≡ Some room

-- what is settled of type t: its room is right whatever the open ones turn out to be; a type without one is packed
-- and does not reach itself
abbrev pub IsSettled : Program → List (Option Auto) → List (Option Room) → ℕ → Option Room → Type 0
IsSettled p kinds settled t None = (kind_of kinds t ≡ Some Packed) × IsFinite p.types t
IsSettled p kinds settled t (Some room) =
    (rooms : List Room) → ExtendsSettled settled rooms → IsRoom p kinds rooms t room

-- there is an entry for each type, which is right so far, and any rooms that the types can have agree with the
-- settled ones
pub record AreSettled (p : Program) (kinds : List (Option Auto)) (settled : List (Option Room)) : Type 0 where
  pub count : length settled ≡ length p.types
  pub each : (t : ℕ) (room : Option Room) → slice_get settled t ≡ Some room → IsSettled p kinds settled t room
  pub only : (rooms : List Room) → AreRooms p kinds rooms → ExtendsSettled settled rooms

-- what is settled of type t at first: its room is right whatever the others are; a type without one is packed and
-- does not reach itself
abbrev pub IsFirst : Program → List (Option Auto) → ℕ → Option Room → Type 0
IsFirst p kinds t None = (kind_of kinds t ≡ Some Packed) × IsFinite p.types t
IsFirst p kinds t (Some room) = (rooms : List Room) → IsRoom p kinds rooms t room
