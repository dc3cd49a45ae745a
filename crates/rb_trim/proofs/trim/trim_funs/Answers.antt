use Rattle.std.proofs.Common.{◌≡◌, length, arith, subst}
use Rattle.rb_trim.specs.inner.Stepping.{AreTrimmed}
use Rattle.rb_trim.proofs.Fitting.{item_is, none_trimmed, more_trimmed}
use Rattle.rb_trim.proofs.trim.trim_funs.Goals as goal

pub loop-fun-init : goal.loop-fun-init
loop-fun-init c = rw c.new-new.ensures (none_trimmed c.args.funs.now)

pub loop-fun-preserved : goal.loop-fun-preserved
loop-fun-preserved c =
    rw c.in_ok-push.ensures.ok
    (more_trimmed c.args.funs.now c.loop-fun.new c.loop-fun.fun-index c.fun-item.result c.in_ok-shorter.shorter
    (item_is c.args.funs.now c.loop-fun.fun-index c.fun-item.result (omega arith) c.fun-item.is) c.loop-fun.invariant c.in_ok-shorter.ensures)

pub returns : goal.returns
returns c =
    let done : c.loop-fun.fun-index ≡ length c.args.funs.now = omega arith in
    subst (λ n. AreTrimmed c.args.funs.now n c.loop-fun.new) done c.loop-fun.invariant
