use Rattle.rb_agree.proofs.Testing.{Done}
use Rattle.rb_agree.proofs.tests.+testing.Given as goal

abbrev pub invariant-loop-arm : goal.invariant-loop-arm
invariant-loop-arm l = Done l.types l.layouts l.leaf l.n l.loc l.arms l.arm-index l.passes
