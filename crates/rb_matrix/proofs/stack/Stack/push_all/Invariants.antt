use Rattle.std.proofs.Common.{◌≡◌, ◌++◌, length}
use Rattle.rb_matrix.proofs.stack.Stack.push_all.Given as goal

abbrev pub invariant-loop-item : goal.invariant-loop-item
invariant-loop-item g l = l.more ++ l.self ≡ l.initial.more ++ l.initial.self

abbrev pub decreases-loop-item : goal.decreases-loop-item
decreases-loop-item g l = length l.more
