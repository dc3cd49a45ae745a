use Rattle.std.proofs.Common.{ℕ, ◌<◌}
use Rattle.rb_trim.specs.inner.Stepping.{LivesAt}
use Rattle.rb_trim.proofs.steps.each_lives.Given as goal

abbrev pub invariant-loop-k : goal.invariant-loop-k
invariant-loop-k l = (j : ℕ) → j < l.k → LivesAt l.hints l.slots l.instr l.target j
