use Rattle.std.proofs.Common.{◌≡◌, ◌++◌, drop}
use Rattle.rb_auto.specs.FieldWords.{fields_words}
use Rattle.rb_auto.proofs.field_words.words_of.Given as goal

abbrev pub invariant-loop-field : goal.invariant-loop-field
invariant-loop-field l =
    l.words ++ fields_words l.program l.rooms l.field (drop l.field l.fields) ≡ fields_words l.program l.rooms 0 l.fields
