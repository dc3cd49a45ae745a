use Rattle.std.proofs.Common.{sym}
use Rattle.rb_read.proofs.LimitLemmas.{over-here, over-later}
use Rattle.rb_read.proofs.limits.items_over.Goals as goal

pub returns-in-Some : goal.returns-in-Some
returns-in-Some c = over-here _ _ _ _ c.loop-item-test.true c.item-item.is c.loop-item.invariant (sym c.in-Some.ensures)

pub loop-item-preserved : goal.loop-item-preserved
loop-item-preserved c = over-later _ _ _ c.loop-item-test.true c.item-item.is c.loop-item.invariant (sym c.in_default.ensures)
