use Rattle.rb_agree.proofs.Ruling.{LeavesPass}
use Rattle.rb_agree.proofs.rules.leaves_fault.Given as goal

abbrev pub invariant-loop-n : goal.invariant-loop-n
invariant-loop-n l = LeavesPass l.ruled.program.now l.ruled.layouts.now l.ruled.ty l.ruled.layout.now l.ruled.rule l.n
