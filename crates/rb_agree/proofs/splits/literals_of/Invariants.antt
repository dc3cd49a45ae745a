use Rattle.std.proofs.Common.{◌≡◌, ◌++◌, drop}
use Rattle.rb_agree.specs.inner.Splits.{literals_in}
use Rattle.rb_agree.proofs.splits.literals_of.Given as goal

abbrev pub invariant-loop-arm : goal.invariant-loop-arm
invariant-loop-arm l = l.literals ++ literals_in (drop l.arm-index l.arms) ≡ literals_in l.arms
