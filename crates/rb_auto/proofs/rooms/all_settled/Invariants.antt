use Rattle.std.proofs.Common.{◌≡◌, ◌++◌, Some, map, drop}
use Rattle.rb_auto.proofs.rooms.all_settled.Given as goal

abbrev pub invariant-loop-room : goal.invariant-loop-room
invariant-loop-room l = map Some l.rooms ++ drop l.room-index l.settled ≡ l.settled
