use Rattle.std.proofs.Common.{◌+◌, ◌≤◌, ◌<◌, sym, ◌∙◌, arith}
use Rattle.std.proofs.Math.Nat.{le-max_left, le-max_right}
use Rattle.rb_check.proofs.BelowLemmas.{below-next, repeat-next}
use Rattle.rb_check.proofs.pattern.repeated_param.Goals as goal

pub loop-i-preserved : goal.loop-i-preserved
loop-i-preserved c =
    let wider : c.loop-i.above ≤ c.max-above.result = omega (arith, c.max-above.ensures, le-max_left c.loop-i.above (c.from.result + 1)) in
    let below : c.from.result < c.max-above.result = omega (arith, c.max-above.ensures, le-max_right c.loop-i.above (c.from.result + 1)) in
    record {
      gives = repeat-next c.args.params.now c.loop-i.i _ c.loop-i-test.true (sym c.stands_below.ensures ∙ c.if-stands_below.false)
          ∙ c.loop-i.invariant.gives;
      below = below-next c.loop-i.above c.max-above.result c.from.result c.args.params.now c.loop-i.i _ c.loop-i-test.true c.from.ensures wider below
          c.loop-i.invariant.below;
    }
