use Rattle.rb_peek.proofs.RebuiltValues.{rebuilt_words_represent}
use Rattle.rb_peek.proofs.laws.rebuilt_words_represent.Goals as goal

pub returns : goal.returns
returns c = rebuilt_words_represent
