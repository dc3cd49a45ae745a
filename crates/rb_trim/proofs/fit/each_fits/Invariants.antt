use Rattle.std.proofs.Common.{ℕ, ◌<◌}
use Rattle.rb_trim.specs.inner.Stepping.{FitsAt}
use Rattle.rb_trim.proofs.fit.each_fits.Given as goal

abbrev pub invariant-loop-pc : goal.invariant-loop-pc
invariant-loop-pc l = (j : ℕ) → j < l.pc → FitsAt l.slots l.body j
