use Rattle.std.proofs.Common.{◌≡◌, map, take}
use Rattle.rb_target.specs.inner.Fields.{value_of}
use Rattle.rb_target.proofs.read.line.slots_in.Given as goal

abbrev pub invariant-loop-word : goal.invariant-loop-word
invariant-loop-word l = l.slots ≡ map value_of (take l.word-index l.words)
