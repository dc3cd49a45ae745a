use Rattle.std.proofs.Common.{refl}
use Rattle.rb_agree.proofs.Lists.{before-more, before-all}
use Rattle.rb_agree.specs.inner.Blocks.{HasWidth}
use Rattle.rb_agree.proofs.blocks.width_fault.Goals as goal

pub loop-word-preserved : goal.loop-word-preserved
loop-word-preserved c = before-more HasWidth c.args.words.now c.loop-word.word-index c.word-item.result c.loop-word-test.true c.word-item.is (c.if-not-is_block_width.ensures.0 refl) c.loop-word.invariant

pub returns : goal.returns
returns c = before-all HasWidth c.args.words.now c.loop-word.word-index c.loop-word-test.false c.loop-word.invariant
