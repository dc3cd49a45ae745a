use Rattle.std.proofs.Common.{take}
use Rattle.rb_agree.specs.inner.Passing.{AreWalked}
use Rattle.rb_agree.specs.inner.Tests.{arms_routes}
use Rattle.rb_agree.proofs.passing.+walking.Given as goal

abbrev pub invariant-walk_arms-loop-arm : goal.invariant-walk_arms-loop-arm
invariant-walk_arms-loop-arm l = AreWalked l.types l.layouts l.leaves (arms_routes l.loc (take l.arm-index l.arms)) l.span l.fn.marks l.marks
