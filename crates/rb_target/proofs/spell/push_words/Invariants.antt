use Rattle.std.proofs.Common.{◌≡◌, ◌++◌, take}
use Rattle.rb_target.specs.Text.{spaced_text}
use Rattle.rb_target.proofs.spell.push_words.Given as goal

abbrev pub invariant-loop-word : goal.invariant-loop-word
invariant-loop-word l = l.text.items ≡ l.initial.text.items ++ spaced_text (take l.word-index l.words)
