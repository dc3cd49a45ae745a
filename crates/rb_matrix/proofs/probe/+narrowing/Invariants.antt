use Rattle.std.proofs.Common.{◌≡◌, length}
use Rattle.rb_matrix.specs.inner.Against.{AreCovered}
use Rattle.rb_matrix.proofs.probe.+narrowing.Given as goal

abbrev pub invariant-probes_of-loop-i : goal.invariant-probes_of-loop-i
invariant-probes_of-loop-i l = record { long : length l.probes ≡ l.i; covered : AreCovered l.i l.pats l.probes }
