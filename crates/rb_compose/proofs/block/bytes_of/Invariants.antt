use Rattle.std.proofs.Common.{◌≡◌, ◌+◌, drop}
use Rattle.rb_layout.specs.Words.{bytes_taken}
use Rattle.rb_compose.proofs.block.bytes_of.Given as goal

abbrev pub invariant-loop-word : goal.invariant-loop-word
invariant-loop-word l = l.size + bytes_taken (drop l.word-index l.words) ≡ bytes_taken l.words
