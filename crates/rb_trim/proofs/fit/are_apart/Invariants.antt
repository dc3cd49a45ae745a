use Rattle.std.proofs.Common.{ℕ, ◌<◌}
use Rattle.rb_trim.specs.inner.Moving.{IsApart}
use Rattle.rb_trim.proofs.fit.are_apart.Given as goal

abbrev pub invariant-loop-slot : goal.invariant-loop-slot
invariant-loop-slot l = (k : ℕ) → k < l.slot → IsApart l.hints k
