use Rattle.std.proofs.Common.{length}
use Rattle.rb_image.specs.Parts.{at_of, look}
use Rattle.rb_image.specs.inner.Descending.{DescentStands}
use Rattle.rb_image.specs.inner.Ending.{AllEnd, depth_bound, weights}
use Rattle.rb_image.proofs.descent.descend.Given as goal

-- what is found on the way is what is found from the root on
abbrev pub invariant-loop-step : goal.invariant-loop-step
invariant-loop-step l = record {
  stands : DescentStands (look l.agreed.covered.program.types l.agreed.layouts l.memory) (at_of l.fn.root) l.known l.todo.items;
  ends : AllEnd (look l.agreed.covered.program.types l.agreed.layouts l.memory) (depth_bound 18446744073709551616 (length l.agreed.layouts)) l.todo.items;
}

abbrev pub decreases-loop-step : goal.decreases-loop-step
decreases-loop-step l = weights (look l.agreed.covered.program.types l.agreed.layouts l.memory) (depth_bound 18446744073709551616 (length l.agreed.layouts)) l.todo.items
