use Rattle.std.proofs.Common.{◌≡◌, ◌+◌, ◌*◌, ◌≤◌, ◌++◌, drop}
use Rattle.rb_image.specs.LeafWords.{numbers_at}
use Rattle.rb_image.proofs.leaf_words.read_numbers.Given as goal

abbrev pub invariant-loop-word : goal.invariant-loop-word
invariant-loop-word g l = record {
  numbers : numbers_at l.image.blocks l.address 0 l.words ≡ l.found.items ++ numbers_at l.image.blocks l.address l.byte (drop l.word-index l.words);
  byte : l.byte ≤ 8 * l.word-index;
  least : l.fn.steps.taken ≤ l.steps.taken;
  most : l.steps.taken ≤ l.fn.steps.taken + l.word-index;
}
