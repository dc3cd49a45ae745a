use Rattle.rb_layout.specs.Graphs.{AreUnmarked}
use Rattle.rb_layout.proofs.graphs.no_marks.Given as goal

abbrev pub invariant-loop-i : goal.invariant-loop-i
invariant-loop-i l = AreUnmarked l._i l.marks
