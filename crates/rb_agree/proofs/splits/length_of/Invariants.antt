use Rattle.std.proofs.Common.{◌≡◌, drop}
use Rattle.rb_layout.specs.A8.{last_length, length_of}
use Rattle.rb_agree.proofs.splits.length_of.Given as goal

abbrev pub invariant-loop-step : goal.invariant-loop-step
invariant-loop-step l = last_length l.l (drop l.step-index l.step-items) ≡ length_of l.loc
