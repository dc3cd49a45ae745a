use Rattle.std.proofs.Common.{Some}
use Rattle.rb_layout.proofs.locate.word_of.Goals as goal

pub word_beginning-requires : goal.word_beginning-requires
word_beginning-requires c = rw c.words_of.ensures (c.requires.words (Some c.args.b))
