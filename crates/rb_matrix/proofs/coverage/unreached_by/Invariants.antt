use Rattle.std.proofs.Common.{take}
use Rattle.rb_matrix.specs.Exhaust.{AreUnreachedOf}
use Rattle.rb_matrix.specs.inner.Passed.{ArePassed}
use Rattle.rb_matrix.proofs.coverage.unreached_by.Given as goal

abbrev pub invariant-loop-i : goal.invariant-loop-i
invariant-loop-i l = record {
  unreached : AreUnreachedOf l.types l.ty l.pats l.i l.numbers.items;
  passed : ArePassed (take l.i l.pats) l.passed;
}
