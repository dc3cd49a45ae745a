use Rattle.std.proofs.Common.{ℕ, ◌<◌}
use Rattle.rb_trim.specs.inner.Stepping.{JumpsOnAt}
use Rattle.rb_trim.proofs.steps.arms_jump_on.Given as goal

abbrev pub invariant-loop-k : goal.invariant-loop-k
invariant-loop-k l = (j : ℕ) → j < l.k → JumpsOnAt l.hints l.pc l.instr l.slot l.arms j
