use Rattle.std.proofs.Common.{◌≡◌, ◌++◌, drop}
use Rattle.rb_matrix.specs.Known.{AreHeadsOf}
use Rattle.rb_decide.specs.ClauseMatrices.{column_heads}
use Rattle.rb_decide.proofs.HeadOrder.{beyond}
use Rattle.rb_decide.proofs.heads.heads_of_column.Given as goal

abbrev pub invariant-loop-row : goal.invariant-loop-row
invariant-loop-row l = record {
  known : AreHeadsOf l.known l.heads.items;
  order : l.heads.items ++ beyond l.heads.items (column_heads (drop l.row-index l.rows)) ≡ column_heads l.rows;
}
