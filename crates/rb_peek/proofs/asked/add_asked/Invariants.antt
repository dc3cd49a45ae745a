use Rattle.std.proofs.Common.{◌≡◌, ◌++◌, length}
use Rattle.rb_layout.specs.Splits.{splits_of}
use Rattle.rb_peek.specs.Asked.{asked_by}
use Rattle.rb_peek.proofs.asked.add_asked.Given as goal

-- the words so far and those that are asked for below are all
abbrev pub invariant-loop-tree : goal.invariant-loop-tree
invariant-loop-tree l = l.found.items ++ asked_by l.tree l.memory l.words ≡ l.initial.found.items ++ asked_by l.fn.tree l.memory l.words

abbrev pub decreases-loop-tree : goal.decreases-loop-tree
decreases-loop-tree l = length (splits_of l.tree)
