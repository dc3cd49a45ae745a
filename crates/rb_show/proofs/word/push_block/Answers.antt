use Rattle.std.proofs.Common.{refl}
use Rattle.rb_core.proofs.TextLemmas.{two}
use Rattle.rb_show.proofs.word.push_block.Goals as goal

pub returns : goal.returns
returns c = two _ _ _ _ _ _ (rw c.block_size.ensures at c.in_ok-push_block_line.ensures) refl (rw c.as_slice.ensures at c.in_ok-push_block_words.ensures)
