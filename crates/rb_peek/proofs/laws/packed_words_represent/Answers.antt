use Rattle.rb_peek.proofs.PackedWords.{packed_words_represent}
use Rattle.rb_peek.proofs.laws.packed_words_represent.Goals as goal

pub returns : goal.returns
returns c = packed_words_represent
