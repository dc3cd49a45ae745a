use Rattle.std.proofs.Common.{◌≡◌, take}
use Rattle.rb_matrix.proofs.part.steps_copied.Given as goal

abbrev pub invariant-loop-step : goal.invariant-loop-step
invariant-loop-step l = l.copies ≡ take l.step-index l.steps
