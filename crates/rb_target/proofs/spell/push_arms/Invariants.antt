use Rattle.std.proofs.Common.{◌≡◌, ◌++◌, take}
use Rattle.rb_target.specs.Text.{pairs}
use Rattle.rb_target.proofs.spell.push_arms.Given as goal

abbrev pub invariant-loop-arm : goal.invariant-loop-arm
invariant-loop-arm l = l.words.items ≡ l.initial.words.items ++ pairs (take l.arm-index l.arms)
