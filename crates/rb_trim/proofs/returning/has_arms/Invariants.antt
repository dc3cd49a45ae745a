use Rattle.std.proofs.Common.{ℕ, ◌<◌}
use Rattle.rb_trim.specs.inner.Stepping.{HasArm}
use Rattle.rb_trim.proofs.returning.has_arms.Given as goal

abbrev pub invariant-loop-number : goal.invariant-loop-number
invariant-loop-number l = (j : ℕ) → j < l.number → HasArm l.arms j
