use Rattle.std.proofs.Common.{◌≡◌, ◌++◌, drop}
use Rattle.rb_decide.specs.ClauseMatrices.{match_rows}
use Rattle.rb_decide.proofs.clause_matrix.rows_of_match.Given as goal

abbrev pub invariant-loop-i : goal.invariant-loop-i
invariant-loop-i l = l.rows ++ match_rows l.i (drop l.i l.pats) ≡ match_rows 0 l.pats
