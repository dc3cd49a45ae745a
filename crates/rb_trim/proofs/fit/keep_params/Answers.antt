use Rattle.std.proofs.Common.{arith}
use Rattle.rb_trim.proofs.Fitting.{all_keep}
use Rattle.rb_trim.proofs.fit.keep_params.Goals as goal

pub returns : goal.returns
returns c = λ t. all_keep c.args.hints.now c.args.params (λ j lt. c.loop-slot.invariant j (omega (arith, c.len-slot-end.ensures)))
