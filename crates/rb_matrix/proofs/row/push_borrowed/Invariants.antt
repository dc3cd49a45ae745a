use Rattle.std.proofs.Common.{◌≡◌, ◌≤◌, ◌++◌, length}
use Rattle.rb_matrix.specs.inner.Borrowed.{patterns_of}
use Rattle.rb_matrix.proofs.row.push_borrowed.Given as goal

abbrev pub invariant-loop-left : goal.invariant-loop-left
invariant-loop-left l = record {
  all : l.left ++ patterns_of l.behind ≡ l.pats ++ patterns_of l.initial.behind;
  few : length l.left ≤ length l.pats;
}

abbrev pub decreases-loop-left : goal.decreases-loop-left
decreases-loop-left l = length l.left
