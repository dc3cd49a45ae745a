use Rattle.std.proofs.Common.{◌≡◌, [], take, None}
use Rattle.std.specs.List.{fold}
use Rattle.rb_target.specs.inner.Fields.{arms_with_word}
use Rattle.rb_target.proofs.read.line.arms_in.Given as goal

abbrev pub invariant-loop-word : goal.invariant-loop-word
invariant-loop-word l = l.read ≡ fold arms_with_word (record { arms = []; number = None }) (take l.word-index l.words)
