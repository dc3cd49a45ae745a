use Rattle.std.proofs.Common.{◌≡◌, ◌≢◌, ℕ, ◌<◌, ◌≤◌, ◌-◌, length, Some}
use Rattle.std.specs.Prelude.{slice_get}
use Rattle.rb_layout.specs.declared.opens.OpenPosition.{OpenPosition}
use Rattle.rb_agree.proofs.search.position_number.Given as goal

-- no position before `low` is at the path, and none from `high` on
abbrev pub invariant-loop-low : goal.invariant-loop-low
invariant-loop-low l = record {
  within : l.high ≤ length l.places;
  before : (k : ℕ) (place : OpenPosition) → k < l.low → slice_get l.places k ≡ Some place → place.path ≢ l.path;
  behind : (k : ℕ) (place : OpenPosition) → l.high ≤ k → slice_get l.places k ≡ Some place → place.path ≢ l.path;
}

abbrev pub decreases-loop-low : goal.decreases-loop-low
decreases-loop-low l = l.high - l.low
