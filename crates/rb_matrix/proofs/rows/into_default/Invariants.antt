use Rattle.std.proofs.Common.{◌≡◌, ◌++◌, length}
use Rattle.rb_matrix.specs.Specialize.{defaults}
use Rattle.rb_matrix.proofs.rows.into_default.Given as goal

abbrev pub invariant-loop-row : goal.invariant-loop-row
invariant-loop-row l = l.kept ++ defaults l.left.items ≡ defaults l.fn.rows

abbrev pub decreases-loop-row : goal.decreases-loop-row
decreases-loop-row l = length l.left.items
