use Rattle.std.proofs.Common.{◌≡◌, ◌++◌, length}
use Rattle.rb_matrix.specs.Specialize.{special}
use Rattle.rb_matrix.proofs.rows.into_specialized.Given as goal

abbrev pub invariant-loop-row : goal.invariant-loop-row
invariant-loop-row l = l.kept ++ special l.head l.fields l.left.items ≡ special l.head l.fields l.fn.rows

abbrev pub decreases-loop-row : goal.decreases-loop-row
decreases-loop-row l = length l.left.items
