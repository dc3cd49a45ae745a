use Rattle.std.proofs.Common.{◌≡◌, ◌++◌, drop}
use Rattle.std.specs.List.{flat_map}
use Rattle.rb_decide.specs.inner.Sharing.{arm_key}
use Rattle.rb_decide.proofs.keys.push_arms.Given as goal

abbrev pub invariant-loop-arm : goal.invariant-loop-arm
invariant-loop-arm l = l.key.items ++ flat_map arm_key (drop l.arm-index l.arms) ≡ l.initial.key.items ++ flat_map arm_key l.arms
