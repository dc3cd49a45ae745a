use Rattle.std.proofs.Common.{◌+◌, ◌*◌, ◌≤◌, map, sum}
use Rattle.rb_core.specs.Values.{node_count}
use Rattle.rb_core.proofs.value.Value.drop.Given as goal

abbrev pub invariant-loop-next : goal.invariant-loop-next
invariant-loop-next l = node_count l.value + sum (map node_count l.list) ≤ node_count l.fn.self

abbrev pub decreases-loop-next : goal.decreases-loop-next
decreases-loop-next l = (node_count l.value + sum (map node_count l.list)) * (node_count l.fn.self + 1) + node_count l.value
