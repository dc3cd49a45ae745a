use Rattle.std.proofs.Common.{◌<◌, arith, get_or}
use Rattle.std.proofs.lemmas.Option.{slice_get-get_or}
use Rattle.rb_agree.specs.inner.Order.{rank_of}
use Rattle.rb_agree.proofs.Lists.{before-next, before-all}
use Rattle.rb_agree.proofs.order.row_falls.Goals as goal

pub loop-next-preserved : goal.loop-next-preserved
loop-next-preserved c =
    before-next (λ s. rank_of c.args.ranks.now s < rank_of c.args.ranks.now c.args.t) c.args.row.now c.loop-next.next-index (get_or c.args.row.now c.loop-next.next-index 0)
    (slice_get-get_or c.args.row.now c.loop-next.next-index 0 c.loop-next-test.true) (omega (arith, c.if-rank_of.false, c.rank_of.ensures, c.rank_of-in-loop-next.ensures)) c.loop-next.invariant

pub returns : goal.returns
returns c = before-all (λ s. rank_of c.args.ranks.now s < rank_of c.args.ranks.now c.args.t) c.args.row.now c.loop-next.next-index c.loop-next-test.false c.loop-next.invariant
