use Rattle.std.proofs.Common.{◌≡◌, [], length}
use Rattle.rb_matrix.specs.inner.Problems.{row_for_root}
use Rattle.rb_matrix.proofs.witness.witness.Given as goal

abbrev pub invariant-loop-step : goal.invariant-loop-step
invariant-loop-step l = row_for_root l.steps l.row.items ≡ row_for_root l.initial.steps []

abbrev pub decreases-loop-step : goal.decreases-loop-step
decreases-loop-step l = length l.steps
