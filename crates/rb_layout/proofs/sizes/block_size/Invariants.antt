use Rattle.std.proofs.Common.{◌≡◌, ◌+◌, ◌*◌, ◌≤◌, drop}
use Rattle.rb_layout.specs.Words.{size_of, bytes_taken}
use Rattle.rb_layout.proofs.sizes.block_size.Given as goal

abbrev pub invariant-loop-word : goal.invariant-loop-word
invariant-loop-word l = record {
  same : size_of l.block ≡ l.size + bytes_taken (drop l.word-index l.block.words);
  few : l.size ≤ 8 * l.word-index;
}
