use Rattle.std.proofs.Common.{◌<◌, ℕ}
use Rattle.rb_target.specs.Faults.{InFun}
use Rattle.rb_target.specs.Validity.{IsValidFun}
use Rattle.rb_target.proofs.check.check_funs.Given as goal

abbrev pub invariant-loop-n : goal.invariant-loop-n
invariant-loop-n l = (k : ℕ) → k < l.n → InFun l.funs k (λ f. IsValidFun l.funs f)
