use Rattle.rb_matrix.specs.inner.Against.{AreCovered}
use Rattle.rb_matrix.proofs.apart.+covering.Given as goal

abbrev pub invariant-cover_each-loop-i : goal.invariant-cover_each-loop-i
invariant-cover_each-loop-i l = AreCovered l.i l.ones l.others
