use Rattle.std.proofs.Common.{◌≡◌, drop}
use Rattle.rb_coding.specs.Arms.{under_number}
use Rattle.rb_coding.proofs.splits.under.Given as goal

abbrev pub invariant-loop-arm : goal.invariant-loop-arm
invariant-loop-arm l = under_number l.arms l.other l.number ≡ under_number (drop l.arm-index l.arms) l.other l.number
