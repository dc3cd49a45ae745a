use Rattle.std.proofs.Common.{ap, ◌∙◌}
use Rattle.rb_image.specs.Splits.{range_of}
use Rattle.rb_image.proofs.LeafWordLemmas.{bits_are}
use Rattle.rb_image.specs.Orders.{spot_part}
use Rattle.rb_image.proofs.leaf_words.LeafWords.bits.Goals as goal

pub returns : goal.returns
returns c = λ m leaf placed has part.
    let s = spot_part c.args.spot.now in
    c.range_of.ensures ∙ ap (λ w. range_of w s.part.o s.part.l) c.word_of.ensures ∙ bits_are m placed leaf c.args.self.now has s part
