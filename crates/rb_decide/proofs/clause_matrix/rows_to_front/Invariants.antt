use Rattle.std.proofs.Common.{◌≡◌, take, map}
use Rattle.rb_decide.specs.ClauseMatrices.{row_to_front}
use Rattle.rb_decide.proofs.clause_matrix.rows_to_front.Given as goal

abbrev pub invariant-loop-row : goal.invariant-loop-row
invariant-loop-row l = l.moved ≡ map (row_to_front l.i) (take l.row-index l.rows)
