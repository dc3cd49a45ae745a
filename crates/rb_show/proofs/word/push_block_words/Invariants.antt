use Rattle.std.proofs.Common.{◌≡◌, ◌++◌, ◌*◌, ◌≤◌, take}
use Rattle.rb_layout.specs.Words.{begins_at}
use Rattle.rb_show.specs.Lines.{numbered_texts, block_word_lines}
use Rattle.rb_show.proofs.word.push_block_words.Given as goal

abbrev pub invariant-loop-i : goal.invariant-loop-i
invariant-loop-i l = record {
  text : l.text.items ≡ l.initial.text.items ++ numbered_texts (block_word_lines l.words) 0 (take l.i l.words);
  byte : l.byte ≡ begins_at l.words l.i;
  few : l.byte ≤ 8 * l.i;
}
