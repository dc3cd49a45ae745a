use Rattle.std.proofs.Common.{ℕ, ◌<◌}
use Rattle.rb_trim.specs.inner.Following.{FollowsAt}
use Rattle.rb_trim.proofs.telling.follow.Given as goal

abbrev pub invariant-loop-k : goal.invariant-loop-k
invariant-loop-k l = (j : ℕ) → j < l.k → FollowsAt l.facts l.told l.instr l.behind j
