use Rattle.std.proofs.Common.{◌≡◌, ◌++◌, drop, map}
use Rattle.rb_auto.specs.Widths.{counted_width}
use Rattle.rb_auto.specs.FieldWords.{words_from}
use Rattle.rb_auto.proofs.field_words.add_words.Given as goal

abbrev pub invariant-loop-number : goal.invariant-loop-number
invariant-loop-number l =
    l.words ++ words_from l.field l.number (map counted_width (drop l.number l.shape)) ≡ l.fn.words ++ words_from l.field 0 (map counted_width l.shape)
