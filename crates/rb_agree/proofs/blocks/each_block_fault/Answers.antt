use Rattle.rb_agree.proofs.Lists.{before-more, before-all}
use Rattle.rb_agree.specs.inner.Blocks.{IsBlock}
use Rattle.rb_agree.proofs.blocks.each_block_fault.Goals as goal

pub loop-block-preserved : goal.loop-block-preserved
loop-block-preserved c = before-more IsBlock c.args.blocks.now c.loop-block.block-index c.block-item.result c.loop-block-test.true c.block-item.is c.in_default.ensures c.loop-block.invariant

pub returns : goal.returns
returns c = before-all IsBlock c.args.blocks.now c.loop-block.block-index c.loop-block-test.false c.loop-block.invariant
