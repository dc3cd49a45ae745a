use Rattle.std.proofs.Common.{◌≡◌, ◌++◌, drop}
use Rattle.rb_matrix.specs.Specialize.{defaults}
use Rattle.rb_matrix.proofs.specialization.rows_by_default.Given as goal

abbrev pub invariant-loop-row : goal.invariant-loop-row
invariant-loop-row l = l.kept ++ defaults (drop l.row-index l.rows) ≡ defaults l.rows
