use Rattle.std.proofs.Common.{get_or, arith}
use Rattle.std.proofs.lemmas.Option.{slice_get-get_or}
use Rattle.rb_agree.proofs.Grouping.{shares-next}
use Rattle.rb_agree.proofs.sharing.shares_with.Goals as goal

pub loop-m-preserved : goal.loop-m-preserved
loop-m-preserved c =
    let members = c.args.members.now in let k = c.loop-m.m-index in
    shares-next c.args.types.now c.args.ty c.args.leaves.now c.args.n c.args.leaf.now members k (get_or members k 0) c.loop-m.invariant (slice_get-get_or members k 0 c.loop-m-test.true)
    (c.in_ok-shares_later.ensures c.if-branch.false)

pub returns : goal.returns
returns c = λ clear j m later lt. let le = c.loop-m-test.false in c.loop-m.invariant j m later (omega (arith, lt, le))
