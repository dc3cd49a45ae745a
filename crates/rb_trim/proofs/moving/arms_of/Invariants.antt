use Rattle.std.proofs.Common.{◌≡◌, take, map}
use Rattle.rb_target.specs.declared.instr.SwitchArm.{SwitchArm}
use Rattle.rb_trim.specs.inner.Moving.{moved_arm}
use Rattle.rb_trim.proofs.moving.arms_of.Given as goal

abbrev pub invariant-loop-arm : goal.invariant-loop-arm
invariant-loop-arm l = l.new ≡ map (λ (arm : SwitchArm). moved_arm l.hints arm) (take l.arm-index l.arms)
