use Rattle.std.proofs.Common.{◌≡◌, drop}
use Rattle.rb_target.specs.Meaning.{target_of as the_target_of}
use Rattle.rb_machine.proofs.step.target_of.Given as goal

abbrev pub invariant-loop-arm : goal.invariant-loop-arm
invariant-loop-arm l = the_target_of l.arms l.other l.word ≡ the_target_of (drop l.arm-index l.arms) l.other l.word
