use Rattle.std.proofs.Common.{◌≡◌, map, drop}
use Rattle.rb_core.specs.TypedPrograms.{first_fault}
use Rattle.rb_check.specs.inner.Answers.{arm_fault}
use Rattle.rb_check.proofs.program.+leaves.Given as goal

abbrev pub invariant-check_arms-loop-arm : goal.invariant-check_arms-loop-arm
invariant-check_arms-loop-arm l = first_fault (map (arm_fault l.types l.ty) (drop l.arm-index l.arms)) ≡ first_fault (map (arm_fault l.types l.ty) l.arms)
