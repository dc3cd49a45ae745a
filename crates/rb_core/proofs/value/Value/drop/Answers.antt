use Rattle.std.proofs.Common.{arith}
use Rattle.rb_core.proofs.ValueLemmas.{pair-falls}
use Rattle.rb_core.proofs.value.Value.drop.Goals as goal

pub loop-next-smaller : goal.loop-next-smaller
loop-next-smaller c = pair-falls _ _ _ _ _ c.in-Some-take_apart.ensures.total (omega (arith, c.in-Some-take_apart.ensures.total, c.loop-next.invariant)) c.in-Some-take_apart.ensures.falls
