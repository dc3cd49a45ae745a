use Rattle.std.proofs.Common.{◌≡◌, ◌++◌, drop}
use Rattle.rb_decide.specs.ClauseMatrices.{default_rows}
use Rattle.rb_decide.proofs.branches.other_rows.Given as goal

abbrev pub invariant-loop-row : goal.invariant-loop-row
invariant-loop-row l = l.kept ++ default_rows (drop l.row-index l.rows) ≡ default_rows l.rows
