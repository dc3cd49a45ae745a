use Rattle.std.proofs.Common.{◌≡◌, ◌++◌, drop}
use Rattle.rb_image.specs.Splits.{range_at, range_from}
use Rattle.rb_peek.specs.Asked.{ranges_after}
use Rattle.rb_peek.proofs.asked.add_ranges.Given as goal

-- the words so far and those behind them are all
abbrev pub invariant-loop-step : goal.invariant-loop-step
invariant-loop-step l = record {
  range : range_at l.memory l.words l.loc ≡ range_from l.memory l.range (drop l.step-index l.loc.steps);
  added : l.found.items ++ ranges_after l.memory l.range (drop l.step-index l.loc.steps) ≡ l.initial.found.items ++ ranges_after l.memory l.initial.range l.loc.steps;
}
