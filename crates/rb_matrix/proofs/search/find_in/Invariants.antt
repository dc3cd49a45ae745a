use Rattle.rb_matrix.specs.inner.Left.{IsWorking, costs}
use Rattle.rb_matrix.proofs.search.find_in.Given as goal

abbrev pub invariant-loop-left : goal.invariant-loop-left
invariant-loop-left l = IsWorking l.types l.fn.root l.work.items

abbrev pub decreases-loop-left : goal.decreases-loop-left
decreases-loop-left l = costs l.types l.work.items
