use Rattle.std.proofs.Common.{sym, subst}
use Rattle.rb_image_text.specs.Places.{AreInPlace}
use Rattle.rb_rows_look.proofs.call.below.Goals as goal

pub look-requires : goal.look-requires
look-requires c = record { placed = subst AreInPlace (sym c.as_slice.ensures) c.requires.placed }
