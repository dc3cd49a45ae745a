use Rattle.std.proofs.Common.{◌≡◌, ◌≤◌, length}
use Rattle.rb_core.specs.inner.Copying.{filled_stack, nodes_behind}
use Rattle.rb_core.proofs.copying.leave.Given as goal

abbrev pub invariant-loop-frame : goal.invariant-loop-frame
invariant-loop-frame l = record {
  whole : filled_stack l.frames.items l.value ≡ filled_stack l.fn.frames.items l.fn.copied;
  fewer : nodes_behind l.frames.items ≤ nodes_behind l.fn.frames.items;
}

abbrev pub decreases-loop-frame : goal.decreases-loop-frame
decreases-loop-frame l = length l.frames.items
