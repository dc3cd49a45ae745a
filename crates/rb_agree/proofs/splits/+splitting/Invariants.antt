use Rattle.std.proofs.Common.{drop}
use Rattle.rb_layout.specs.A8.{SplitsWell}
use Rattle.rb_agree.specs.inner.Splits.{FailsSplit, arm_splits}
use Rattle.rb_agree.proofs.Lists.{PassesIn}
use Rattle.rb_agree.proofs.splits.+splitting.Given as goal

abbrev pub invariant-arms_fault-loop-arm : goal.invariant-arms_fault-loop-arm
invariant-arms_fault-loop-arm l = PassesIn SplitsWell FailsSplit (arm_splits (drop l.arm-index l.arms)) (arm_splits l.arms)
