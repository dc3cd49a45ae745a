use Rattle.std.proofs.Common.{◌≡◌, drop}
use Rattle.rb_matrix.specs.FirstHead.{first_head}
use Rattle.rb_matrix.proofs.rows.first_head_in.Given as goal

abbrev pub invariant-loop-row : goal.invariant-loop-row
invariant-loop-row l = first_head (drop l.row-index l.rows) ≡ first_head l.rows
