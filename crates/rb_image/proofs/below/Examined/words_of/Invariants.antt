use Rattle.std.proofs.Common.{◌≡◌, ◌++◌, ◌-◌}
use Rattle.rb_image.specs.Parts.{field_words}
use Rattle.rb_image.specs.inner.Opening.{examined_word}
use Rattle.rb_image.proofs.below.Examined.words_of.Given as goal

abbrev pub invariant-loop-number : goal.invariant-loop-number
invariant-loop-number l =
    field_words (examined_word l.self) l.path 0 l.count ≡ l.words.items ++ field_words (examined_word l.self) l.path l.number (l.count - l.number)
