use Rattle.std.proofs.Common.{◌≤◌, map, sum}
use Rattle.rb_core.specs.Values.{node_count}
use Rattle.rb_core.proofs.value.Value.last_of.Given as goal

abbrev pub invariant-loop-value : goal.invariant-loop-value
invariant-loop-value l = sum (map node_count l.rest) ≤ sum (map node_count l.fn.list)

abbrev pub decreases-loop-value : goal.decreases-loop-value
decreases-loop-value l = sum (map node_count l.rest)
