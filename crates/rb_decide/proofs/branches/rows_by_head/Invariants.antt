use Rattle.std.proofs.Common.{◌≡◌, ◌++◌, drop}
use Rattle.rb_decide.specs.ClauseMatrices.{special_rows}
use Rattle.rb_decide.proofs.branches.rows_by_head.Given as goal

abbrev pub invariant-loop-row : goal.invariant-loop-row
invariant-loop-row l = l.kept ++ special_rows l.head l.fields (drop l.row-index l.rows) ≡ special_rows l.head l.fields l.rows
