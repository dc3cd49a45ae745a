use Rattle.std.proofs.Common.{◌≡◌, ℕ, Option, Some, length}
use Rattle.std.specs.Prelude.{slice_get}
use Rattle.rb_auto.specs.declared.room.Room.{Room}
use Rattle.rb_auto.specs.inner.Settling.{IsFirst}
use Rattle.rb_auto.proofs.rooms.first_rooms.Given as goal

abbrev pub invariant-loop-t : goal.invariant-loop-t
invariant-loop-t l = record {
  count : length l.settled ≡ l.t;
  each : (k : ℕ) (room : Option Room) → slice_get l.settled k ≡ Some room → IsFirst l.program l.kinds k room;
}
