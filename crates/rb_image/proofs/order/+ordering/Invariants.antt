use Rattle.std.proofs.Common.{◌≡◌, ◌+◌, ◌*◌, ◌≤◌, ◌++◌, drop}
use Rattle.std.specs.List.{flat_map}
use Rattle.rb_image.specs.Orders.{block_order, with_inner, word_order, words_order, spots_of}
use Rattle.rb_image.specs.inner.Viewing.{parts_of}
use Rattle.rb_image.proofs.order.+ordering.Given as goal

abbrev pub decreases-add_block : goal.decreases-add_block
decreases-add_block l = 4 * l.depth

abbrev pub decreases-add_part : goal.decreases-add_part
decreases-add_part l = 4 * l.depth + 1

abbrev pub decreases-add_word : goal.decreases-add_word
decreases-add_word l = 4 * l.depth + 2

abbrev pub decreases-add_words : goal.decreases-add_words
decreases-add_words l = 4 * l.depth + 3

abbrev pub invariant-add_word-loop-part : goal.invariant-add_word-loop-part
invariant-add_word-loop-part l =
    spots_of l.fn.order.items ++ word_order (block_order l.leaf l.depth) l.block l.number l.byte l.word
    ≡ spots_of l.order.items ++ flat_map (with_inner (block_order l.leaf l.depth) l.block l.number l.byte l.word.width) (parts_of (drop l.part-index l.part-items))

abbrev pub invariant-add_words-loop-number : goal.invariant-add_words-loop-number
invariant-add_words-loop-number l = record {
  order : spots_of l.fn.order.items ++ words_order (block_order l.leaf l.depth) l.block 0 0 l.words
      ≡ spots_of l.order.items ++ words_order (block_order l.leaf l.depth) l.block l.number l.byte (drop l.number l.words);
  byte : l.byte ≤ 8 * l.number;
}
