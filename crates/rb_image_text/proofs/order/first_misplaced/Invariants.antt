use Rattle.std.proofs.Common.{◌≡◌}
use Rattle.rb_image_text.specs.Places.{end_before, AreInPlaceBefore}
use Rattle.rb_image_text.proofs.order.first_misplaced.Given as goal

abbrev pub invariant-loop-i : goal.invariant-loop-i
invariant-loop-i l = AreInPlaceBefore l.blocks l.i × (l.end ≡ end_before l.blocks l.i)
