use Rattle.std.proofs.Common.{get_or}
use Rattle.std.proofs.lemmas.Option.{slice_get-get_or}
use Rattle.rb_agree.proofs.Lists.{at-item}
use Rattle.rb_agree.proofs.passing.is_like.Goals as goal

pub returns-then-are_alike : goal.returns-then-are_alike
returns-then-are_alike c =
    let n = get_or c.args.priors.now c.loop-n.n-index 0 in (
      c.loop-n.n-index,
      n,
      slice_get-get_or c.args.priors.now c.loop-n.n-index 0 c.loop-n-test.true,
      (c.in-Some.one.now, at-item c.args.leaves.now n c.in-Some.one.now c.in-Some.ensures.lookup.3.0 c.in-Some.ensures.lookup.1, c.if-are_alike.ensures),
    )
