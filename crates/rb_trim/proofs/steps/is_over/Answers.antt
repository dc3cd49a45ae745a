use Rattle.std.proofs.Common.{inr}
use Rattle.rb_trim.specs.inner.Moving.{SlotIsRead}
use Rattle.rb_trim.proofs.Slots.{negated}
use Rattle.rb_trim.proofs.steps.is_over.Goals as goal

pub returns : goal.returns
returns c = λ t. inr (record { by = negated c.is_read.result (SlotIsRead c.args.hints.now c.args.target c.args.slot) c.is_read.ensures t })
