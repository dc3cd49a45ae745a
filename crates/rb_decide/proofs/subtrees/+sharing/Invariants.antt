use Rattle.std.proofs.Common.{take}
use Rattle.rb_decide.specs.inner.Sharing.{AreShared}
use Rattle.rb_decide.proofs.subtrees.+sharing.Given as goal

abbrev pub invariant-add_arms-loop-arm : goal.invariant-add_arms-loop-arm
invariant-add_arms-loop-arm l = AreShared (take l.arm-index l.arms) l.initial.sharing l.sharing l.links
