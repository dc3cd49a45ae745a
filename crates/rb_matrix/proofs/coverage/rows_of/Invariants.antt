use Rattle.std.proofs.Common.{◌≡◌, ◌++◌, drop}
use Rattle.rb_matrix.specs.inner.OneColumn.{one_each}
use Rattle.rb_matrix.proofs.coverage.rows_of.Given as goal

abbrev pub invariant-loop-pat : goal.invariant-loop-pat
invariant-loop-pat l = l.rows ++ one_each (drop l.pat-index l.pats) ≡ one_each l.pats
