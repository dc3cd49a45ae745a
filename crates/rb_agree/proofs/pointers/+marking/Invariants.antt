use Rattle.rb_layout.specs.A9.{pattern_cons}
use Rattle.rb_agree.specs.inner.Marks.{IsMarked, IsUnmarked}
use Rattle.rb_agree.proofs.Lists.{RestPasses}
use Rattle.rb_agree.proofs.pointers.+marking.Given as goal

abbrev pub invariant-marked_among-loop-pat : goal.invariant-marked_among-loop-pat
invariant-marked_among-loop-pat l = RestPasses (IsUnmarked l.marks) (IsMarked l.marks) pattern_cons l.pats l.pat-index l.pat-index
