use Rattle.std.proofs.Common.{◌≡◌, take}
use Rattle.rb_matrix.proofs.search.rows_borrowed.Given as goal

abbrev pub invariant-loop-row : goal.invariant-loop-row
invariant-loop-row l = l.borrowed ≡ take l.row-index l.rows
