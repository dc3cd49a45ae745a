use Rattle.std.proofs.Common.{◌≡◌, ◌++◌, drop}
use Rattle.rb_matrix.specs.Specialize.{special}
use Rattle.rb_matrix.proofs.specialization.special_rows.Given as goal

abbrev pub invariant-loop-row : goal.invariant-loop-row
invariant-loop-row l = l.kept ++ special l.head l.fields (drop l.row-index l.rows) ≡ special l.head l.fields l.rows
