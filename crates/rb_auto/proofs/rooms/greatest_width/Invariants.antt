use Rattle.std.proofs.Common.{◌≡◌, List, map, drop}
use Rattle.std.specs.Prelude.{max}
use Rattle.rb_auto.specs.declared.room.Room.{Room}
use Rattle.rb_auto.specs.Widths.{con_width, greatest}
use Rattle.rb_auto.specs.inner.Settling.{ExtendsSettled}
use Rattle.rb_auto.proofs.rooms.greatest_width.Given as goal

abbrev pub invariant-loop-con : goal.invariant-loop-con
invariant-loop-con l = (rooms : List Room) → ExtendsSettled l.settled rooms
    → max l.most (greatest (map (con_width l.program rooms) (drop l.con-index l.cons))) ≡ greatest (map (con_width l.program rooms) l.cons)
