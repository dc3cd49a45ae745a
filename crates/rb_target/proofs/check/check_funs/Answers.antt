use Rattle.std.proofs.Common.{rules, arith, below_more}
use Rattle.rb_target.proofs.Checks.{first_of_all, all_valid}
use Rattle.rb_target.proofs.check.check_funs.Goals as goal

pub returns-in_err-check_fun-clause-err : goal.returns-in_err-check_fun-clause-err
returns-in_err-check_fun-clause-err c =
    let first = first_of_all _ _ _ c.loop-n.invariant c.in_err-check_fun.ensures.err in
    search rules

pub loop-n-preserved : goal.loop-n-preserved
loop-n-preserved c = below_more _ _ c.loop-n.invariant c.in_ok-check_fun.ensures.ok

pub returns-clause-ok : goal.returns-clause-ok
returns-clause-ok c = all_valid _ (omega arith) (λ k lt. c.loop-n.invariant k (omega arith))
