use Rattle.std.proofs.Common.{◌≡◌, take}
use Rattle.std.specs.Prelude.{sum_by}
use Rattle.rb_auto.specs.Widths.{counted_width}
use Rattle.rb_auto.proofs.rooms.shape_width.Given as goal

abbrev pub invariant-loop-width : goal.invariant-loop-width
invariant-loop-width l = l.bits ≡ sum_by counted_width (take l.width-index l.shape)
