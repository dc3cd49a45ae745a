use Rattle.std.proofs.Common.{◌≡◌, ◌++◌, take}
use Rattle.rb_image_text.specs.Text.{words_text}
use Rattle.rb_lines.proofs.image_text.push_words.Given as goal

abbrev pub invariant-loop-word : goal.invariant-loop-word
invariant-loop-word l = l.text.items ≡ l.initial.text.items ++ words_text (take l.word-index l.words)
