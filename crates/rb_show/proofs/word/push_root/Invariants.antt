use Rattle.std.proofs.Common.{◌≡◌, ◌++◌, take}
use Rattle.rb_show.specs.Lines.{numbered_texts, root_word_lines}
use Rattle.rb_show.proofs.word.push_root.Given as goal

abbrev pub invariant-loop-i : goal.invariant-loop-i
invariant-loop-i l = l.text.items ≡ l.initial.text.items ++ numbered_texts root_word_lines 0 (take l.i l.words)
