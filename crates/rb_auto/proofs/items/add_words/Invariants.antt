use Rattle.std.proofs.Common.{◌≡◌, ◌++◌, drop}
use Rattle.rb_auto.specs.Items.{parts_from}
use Rattle.rb_auto.proofs.items.add_words.Given as goal

abbrev pub invariant-loop-word : goal.invariant-loop-word
invariant-loop-word l = l.parts ++ parts_from l.o (drop l.word-index l.words) ≡ l.fn.parts ++ parts_from l.from l.words
