use Rattle.std.proofs.Common.{take}
use Rattle.rb_agree.specs.Pointing.{AreMarks}
use Rattle.rb_agree.proofs.pointers.pointer_marks.Given as goal

abbrev pub invariant-loop-layout : goal.invariant-loop-layout
invariant-loop-layout l = AreMarks (take l.layout-index l.layouts) l.marks
