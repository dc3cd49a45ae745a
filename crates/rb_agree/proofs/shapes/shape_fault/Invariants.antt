use Rattle.rb_agree.specs.inner.Lists.{EachBefore}
use Rattle.rb_layout.specs.A1.{IsShapeWidth}
use Rattle.rb_agree.proofs.shapes.shape_fault.Given as goal

abbrev pub invariant-loop-i : goal.invariant-loop-i
invariant-loop-i l = EachBefore IsShapeWidth l.decl.shape l.i
