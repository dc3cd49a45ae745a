use Rattle.std.proofs.Common.{arith}
use Rattle.rb_trim.proofs.Fitting.{all_apart}
use Rattle.rb_trim.proofs.fit.are_apart.Goals as goal

pub returns : goal.returns
returns c = λ t. all_apart c.args.hints.now (λ j lt. c.loop-slot.invariant j (omega (arith, c.len-slot-end.ensures)))
