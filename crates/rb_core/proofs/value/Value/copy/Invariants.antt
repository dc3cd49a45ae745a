use Rattle.std.proofs.Common.{◌≡◌, ◌+◌}
use Rattle.rb_core.specs.Values.{node_count}
use Rattle.rb_core.specs.inner.Copying.{filled_stack, nodes_behind}
use Rattle.rb_core.proofs.value.Value.copy.Given as goal

abbrev pub invariant-loop-frames : goal.invariant-loop-frames
invariant-loop-frames l = filled_stack l.frames.items l.value ≡ l.fn.self

abbrev pub decreases-loop-frames : goal.decreases-loop-frames
decreases-loop-frames l = node_count l.value + nodes_behind l.frames.items
