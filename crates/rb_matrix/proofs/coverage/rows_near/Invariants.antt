use Rattle.std.proofs.Common.{take}
use Rattle.rb_matrix.specs.inner.Against.{AreRowsNear}
use Rattle.rb_matrix.proofs.coverage.rows_near.Given as goal

abbrev pub invariant-loop-number : goal.invariant-loop-number
invariant-loop-number l = AreRowsNear l.pat l.pats (take l.number-index l.numbers) l.rows
