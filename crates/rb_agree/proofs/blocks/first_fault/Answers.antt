use Rattle.std.proofs.Common.{subst}
use Rattle.rb_agree.specs.inner.Blocks.{FailsInBlocks, FailsNear}
use Rattle.rb_agree.proofs.PointerParts.{block-fails}
use Rattle.rb_agree.proofs.Reaching.{near-root, word-at}
use Rattle.rb_agree.proofs.blocks.first_fault.Goals as goal

pub returns-in-Some : goal.returns-in-Some
returns-in-Some c =
    near-root c.args.leaf.now c.loop-word.word-index c.word-item.result c.in-Some.why
    (word-at c.as_slice-word-items.result.now c.args.leaf.now.root c.loop-word.word-index c.word-item.result c.loop-word-test.true c.word-item.is c.as_slice-word-items.ensures)
    (subst (λ bs. FailsNear bs c.word-item.result.parts c.in-Some.why) c.as_slice-blocks.ensures
    (subst (λ ps. FailsNear c.as_slice-blocks.result.now ps c.in-Some.why) c.as_slice-parts.ensures c.in-Some.ensures))

pub returns-in-Some-behind_fault : goal.returns-in-Some-behind_fault
returns-in-Some-behind_fault c =
    block-fails c.args.leaf.now c.in-Some-behind_fault.why (subst (λ bs. FailsInBlocks bs c.in-Some-behind_fault.why) c.as_slice-blocks.ensures c.in-Some-behind_fault.ensures)
