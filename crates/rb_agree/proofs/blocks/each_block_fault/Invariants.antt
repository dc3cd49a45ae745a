use Rattle.rb_agree.specs.inner.Lists.{EachBefore}
use Rattle.rb_agree.specs.inner.Blocks.{IsBlock}
use Rattle.rb_agree.proofs.blocks.each_block_fault.Given as goal

abbrev pub invariant-loop-block : goal.invariant-loop-block
invariant-loop-block l = EachBefore IsBlock l.blocks l.block-index
