use Rattle.std.proofs.Common.{◌≡◌, ◌++◌, drop, take}
use Rattle.rb_decide.specs.ClauseMatrices.{field_columns}
use Rattle.rb_decide.proofs.branches.columns_by_head.Given as goal

abbrev pub invariant-loop-i : goal.invariant-loop-i
invariant-loop-i l = l.columns ++ field_columns l.column.position l.i (drop l.i l.fields) ≡ field_columns l.column.position 0 l.fields

abbrev pub invariant-loop-other : goal.invariant-loop-other
invariant-loop-other l = l.columns ≡ field_columns l.column.position 0 l.fields ++ take l.other-index l.rest
