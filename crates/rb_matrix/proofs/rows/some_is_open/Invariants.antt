use Rattle.std.proofs.Common.{◌≡◌, drop}
use Rattle.rb_matrix.specs.inner.Open.{any_open}
use Rattle.rb_matrix.proofs.rows.some_is_open.Given as goal

abbrev pub invariant-loop-row : goal.invariant-loop-row
invariant-loop-row l = any_open (drop l.row-index l.rows) l.columns ≡ any_open l.rows l.columns
