use Rattle.std.proofs.Common.{◌≡◌, [], take, false}
use Rattle.std.specs.List.{fold}
use Rattle.rb_target.specs.inner.Fields.{lists_with_word}
use Rattle.rb_target.proofs.read.line.lists_in.Given as goal

abbrev pub invariant-loop-word : goal.invariant-loop-word
invariant-loop-word l = l.read ≡ fold lists_with_word (record { dests = []; froms = []; behind = false }) (take l.word-index l.words)
