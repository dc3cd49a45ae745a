use Rattle.rb_image.specs.inner.Filling.{StandBefore}
use Rattle.rb_image.proofs.memory.memory_of.Given as goal

abbrev pub invariant-loop-block : goal.invariant-loop-block
invariant-loop-block l = StandBefore l.blocks l.block-index l.memory
