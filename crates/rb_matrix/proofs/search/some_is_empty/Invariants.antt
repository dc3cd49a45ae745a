use Rattle.std.proofs.Common.{◌≡◌, [], drop}
use Rattle.rb_matrix.specs.Rows.{any_row}
use Rattle.rb_matrix.proofs.search.some_is_empty.Given as goal

abbrev pub invariant-loop-row : goal.invariant-loop-row
invariant-loop-row l = any_row (drop l.row-index l.rows) [] ≡ any_row l.rows []
