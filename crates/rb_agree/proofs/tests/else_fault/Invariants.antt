use Rattle.rb_layout.specs.declared.layout.FlatArm.{FlatArm}
use Rattle.rb_layout.specs.Excluded.{Excludes}
use Rattle.rb_agree.specs.inner.Lists.{EachBefore}
use Rattle.rb_agree.proofs.tests.else_fault.Given as goal

abbrev pub invariant-loop-arm : goal.invariant-loop-arm
invariant-loop-arm l = EachBefore (λ (a : FlatArm). Excludes l.types l.layouts l.leaf l.loc a.literal) l.arms l.arm-index
