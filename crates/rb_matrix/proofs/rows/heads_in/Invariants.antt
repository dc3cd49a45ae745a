use Rattle.std.proofs.Common.{◌≡◌, ◌+◌, ◌≤◌, ◌||◌, drop, length}
use Rattle.rb_core.specs.declared.value.Value.{Value}
use Rattle.rb_core.specs.declared.value.Value.TheOpen.{Value-F}
use Rattle.rb_matrix.specs.Heads.{any_begins, column_begins}
use Rattle.rb_matrix.specs.Counts.{rows_head_count}
use Rattle.rb_matrix.specs.Known.{AreHeadsOf}
use Rattle.rb_matrix.proofs.rows.heads_in.Given as goal

abbrev pub invariant-loop-row : goal.invariant-loop-row
invariant-loop-row l = record {
  same : (v : Value-F Value) → (any_begins l.heads.items v || column_begins (drop l.row-index l.rows) v) ≡ column_begins l.rows v;
  few : length l.heads.items + rows_head_count (drop l.row-index l.rows) ≤ rows_head_count l.rows;
  known : AreHeadsOf l.known l.heads.items;
}
