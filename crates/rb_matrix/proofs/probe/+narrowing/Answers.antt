use Rattle.std.proofs.Common.{◌≡◌, length, arith}
use Rattle.rb_matrix.proofs.Covering.{covered-all}
use Rattle.rb_matrix.proofs.probe.+narrowing.Goals as goal

pub probes_of-returns : goal.probes_of-returns
probes_of-returns t c =
    let ps = c.args.pats.now in let qs = c.loop-i.probes in let long = c.loop-i.invariant.long in
    let same : length ps ≡ length qs = grind (arith, long, c.loop-i.auto.i-end, c.loop-i-test.false) in
    covered-all c.loop-i.i ps qs same (grind (arith, long, same)) c.loop-i.invariant.covered
