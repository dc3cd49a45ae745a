use Rattle.std.proofs.Common.{ℕ, ◌<◌}
use Rattle.rb_trim.specs.inner.Moving.{KeepsParam}
use Rattle.rb_trim.proofs.fit.keep_params.Given as goal

abbrev pub invariant-loop-slot : goal.invariant-loop-slot
invariant-loop-slot l = (k : ℕ) → k < l.slot → KeepsParam l.hints l.params k
