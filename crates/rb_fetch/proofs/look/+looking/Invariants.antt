use Rattle.rb_fetch.specs.inner.Looking.{ArmsDone}
use Rattle.rb_fetch.proofs.look.+looking.Given as goal

abbrev pub invariant-loop-k : goal.invariant-loop-k
invariant-loop-k l = ArmsDone l.words l.widths l.tree l.arm-items l.other l.fn.body l.fn.holes l.pc l.k l.body l.holes
