use Rattle.std.proofs.Common.{◌≡◌, drop}
use Rattle.rb_layout.specs.A8 as a8
use Rattle.rb_show.proofs.evidence.length_of.Given as goal

abbrev pub invariant-loop-step : goal.invariant-loop-step
invariant-loop-step l = a8.length_of l.loc ≡ a8.last_length l.length (drop l.step-index l.loc.steps)
