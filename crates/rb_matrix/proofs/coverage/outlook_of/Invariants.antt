use Rattle.std.proofs.Common.{◌-◌, ◌≤◌}
use Rattle.rb_matrix.proofs.coverage.outlook_of.Given as goal

abbrev pub invariant-loop-count : goal.invariant-loop-count
invariant-loop-count l = 1 ≤ l.count

abbrev pub decreases-loop-count : goal.decreases-loop-count
decreases-loop-count l = l.most - l.count
