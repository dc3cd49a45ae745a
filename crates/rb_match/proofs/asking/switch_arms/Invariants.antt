use Rattle.std.proofs.Common.{◌≡◌, ◌++◌, drop}
use Rattle.rb_match.specs.inner.Asking.{number_arms, are_numbers}
use Rattle.rb_match.proofs.asking.switch_arms.Given as goal

abbrev pub invariant-loop-arm : goal.invariant-loop-arm
invariant-loop-arm l = record {
  arms : l.found ++ number_arms l.next (drop l.arm-index l.arms) ≡ number_arms l.next l.arms;
  numbers : are_numbers (drop l.arm-index l.arms) ≡ are_numbers l.arms;
}
