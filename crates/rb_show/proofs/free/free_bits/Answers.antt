use Rattle.std.proofs.Common.{◌-◌, sym, arith}
use Rattle.rb_show.proofs.Words.{one_more}
use Rattle.rb_show.proofs.free.free_bits.Goals as goal

pub loop-count-preserved : goal.loop-count-preserved
loop-count-preserved c =
    one_more c.args.word.now c.args.bit (c.args.word.now.width - c.args.bit) c.loop-count.count (omega (arith, c.loop-count-test.true)) (sym c.if-not-is_free.ensures) c.loop-count.invariant
