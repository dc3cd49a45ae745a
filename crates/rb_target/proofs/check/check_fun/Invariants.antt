use Rattle.std.proofs.Common.{◌<◌, ℕ}
use Rattle.rb_target.specs.Faults.{InFun}
use Rattle.rb_target.specs.inner.Checking.{IsFaultless}
use Rattle.rb_target.proofs.check.check_fun.Given as goal

abbrev pub invariant-loop-pc : goal.invariant-loop-pc
invariant-loop-pc l = (k : ℕ) → k < l.pc → InFun l.funs l.n (λ f. IsFaultless l.funs f k)
