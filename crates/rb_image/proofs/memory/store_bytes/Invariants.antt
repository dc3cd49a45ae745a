use Rattle.rb_image.specs.inner.Filling.{AreStored}
use Rattle.rb_image.proofs.memory.store_bytes.Given as goal

abbrev pub invariant-loop-i : goal.invariant-loop-i
invariant-loop-i l = AreStored l.fn.memory l.at l.bytes l.i l.memory
