use Rattle.std.proofs.Common.{arith}
use Rattle.rb_agree.specs.inner.Search.{side_of}
use Rattle.rb_agree.proofs.Halving.{ends-along}
use Rattle.rb_agree.proofs.search.side_of.Goals as goal

pub returns : goal.returns
returns c =
    let all = c.loop-i-test.false in
    let within = c.loop-i.auto.i-end in
    let end = c.shorter-i-end.ensures in
    let differ = c.if-one-other.false in
    ends-along c.args.one.now c.args.other.now c.loop-i.i (side_of c.args.one.now c.args.other.now) (omega (arith, all, end)) c.loop-i.invariant
    (λ e. omega (arith, differ, e)) (omega (arith, within, end)) (omega (arith, within, end))
