use Rattle.std.proofs.Common.{◌≡◌, length, arith, subst}
use Rattle.rb_trim.specs.inner.Stepping.{Walks}
use Rattle.rb_trim.proofs.Fitting.{item_is, walks_none, walks_more}
use Rattle.rb_trim.proofs.steps.walk.Goals as goal

pub loop-pc-init : goal.loop-pc-init
loop-pc-init c = rw c.new-new.ensures (walks_none c.args.hints.now c.args.body.now)

pub loop-pc-preserved : goal.loop-pc-preserved
loop-pc-preserved c =
    walks_more c.args.hints.now c.args.body.now c.loop-pc.new c.step.new.new c.loop-pc.pc c.index-body-pc.result
    (item_is c.args.body.now c.loop-pc.pc c.index-body-pc.result c.loop-pc-test.true c.index-body-pc.is)
    c.loop-pc.invariant c.in_ok-step.ensures

pub returns : goal.returns
returns c =
    let done : c.loop-pc.pc ≡ length c.args.body.now = omega (arith, c.loop-pc-test.false, c.loop-pc.auto.pc-end) in
    subst (λ n. Walks c.args.hints.now c.args.body.now n c.loop-pc.new) done c.loop-pc.invariant
