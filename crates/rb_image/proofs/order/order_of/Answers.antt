use Rattle.std.proofs.Common.{sym, subst}
use Rattle.rb_layout.specs.Readable.{AreShort}
use Rattle.rb_image.proofs.OrderLemmas.{root_short}
use Rattle.rb_image.proofs.order.order_of.Goals as goal

pub add_words-requires-clause-short : goal.add_words-requires-clause-short
add_words-requires-clause-short c = subst AreShort (sym c.as_slice.ensures) (root_short c.args.leaf.now c.requires.readable)
