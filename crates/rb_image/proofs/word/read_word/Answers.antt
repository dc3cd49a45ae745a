use Rattle.std.proofs.Common.{sym, subst}
use Rattle.rb_image_text.specs.Places.{AreInPlace}
use Rattle.rb_image.proofs.word.read_word.Goals as goal

pub word_in-requires : goal.word_in-requires
word_in-requires g c = record { placed = subst AreInPlace (sym c.as_slice-2.ensures) c.requires.placed }
