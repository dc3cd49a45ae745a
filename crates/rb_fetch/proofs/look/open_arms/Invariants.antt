use Rattle.std.proofs.Common.{◌≡◌, ◌++◌, drop}
use Rattle.rb_fetch.specs.inner.Looking.{open_arms_of}
use Rattle.rb_fetch.proofs.look.open_arms.Given as goal

abbrev pub invariant-loop-arm : goal.invariant-loop-arm
invariant-loop-arm l = open_arms_of l.next l.arms ≡ l.found ++ open_arms_of l.next (drop l.arm-index l.arms)
