use Rattle.std.proofs.Common.{◌≡◌, drop}
use Rattle.rb_image.specs.Splits.{range_at as the_range, range_from}
use Rattle.rb_image.proofs.splits.range_at.Given as goal

abbrev pub invariant-loop-step : goal.invariant-loop-step
invariant-loop-step l = the_range l.memory l.words l.loc ≡ range_from l.memory l.range (drop l.step-index l.loc.steps)
