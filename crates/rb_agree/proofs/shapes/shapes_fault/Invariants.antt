use Rattle.rb_agree.proofs.Finding.{ShapesPass}
use Rattle.rb_agree.proofs.shapes.shapes_fault.Given as goal

abbrev pub invariant-loop-t : goal.invariant-loop-t
invariant-loop-t l = ShapesPass l.program l.t
