use Rattle.std.proofs.Common.{ℕ, ◌<◌}
use Rattle.rb_trim.specs.inner.Stepping.{ComesBackAt}
use Rattle.rb_trim.proofs.returning.arms_come_back.Given as goal

abbrev pub invariant-loop-k : goal.invariant-loop-k
invariant-loop-k l = (j : ℕ) → j < l.k → ComesBackAt l.hints l.body l.words l.arms j
