use Rattle.rb_agree.proofs.Grouping.{SoFar}
use Rattle.rb_agree.proofs.sharing.sharing_marks.Given as goal

abbrev pub invariant-loop-n : goal.invariant-loop-n
invariant-loop-n l = SoFar l.types l.ty l.layout.leaves l.n l.marks
