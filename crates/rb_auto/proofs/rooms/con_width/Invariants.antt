use Rattle.std.proofs.Common.{◌≡◌, List, take}
use Rattle.std.specs.Prelude.{sum_by}
use Rattle.rb_auto.specs.declared.room.Room.{Room}
use Rattle.rb_auto.specs.Widths.{field_width}
use Rattle.rb_auto.specs.inner.Settling.{ExtendsSettled}
use Rattle.rb_auto.proofs.rooms.con_width.Given as goal

abbrev pub invariant-loop-ty : goal.invariant-loop-ty
invariant-loop-ty l = (rooms : List Room) → ExtendsSettled l.settled rooms → l.bits ≡ sum_by (field_width l.program rooms) (take l.ty-index l.ty-items)
