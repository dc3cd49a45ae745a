use Rattle.std.proofs.Common.{◌≡◌, [], drop}
use Rattle.rb_matrix.specs.Rows.{all_rows}
use Rattle.rb_matrix.proofs.search.all_are_empty.Given as goal

abbrev pub invariant-loop-row : goal.invariant-loop-row
invariant-loop-row l = all_rows (drop l.row-index l.rows) [] ≡ all_rows l.rows []
