use Rattle.std.proofs.Common.{length, take, refl, subst}
use Rattle.std.proofs.lemmas.Option.{slice_get_read}
use Rattle.rb_agree.specs.inner.Blocks.{FailsNear}
use Rattle.rb_agree.proofs.Reaching.{lower-fails, near-inside, width-inside, word-at}
use Rattle.rb_agree.proofs.blocks.+reaching.Goals as goal

pub inside_fault-returns-in-Some : goal.inside_fault-returns-in-Some
inside_fault-returns-in-Some t c =
    let blocks = c.args.blocks.now in
    let block = c.in_ok-block.block.now in
    let at = slice_get_read blocks (length blocks) c.args.number block refl c.in_ok-block.ensures.lookup.3.0 c.in_ok-block.ensures.lookup.1 in
    let word = word-at c.as_slice-word-items.result.now block.words c.loop-word.word-index c.word-item.result c.loop-word-test.true c.word-item.is c.as_slice-word-items.ensures in
    near-inside blocks c.args.number block at c.loop-word.word-index c.word-item.result word c.in-Some.why
    (subst (λ ps. FailsNear (take c.args.number blocks) ps c.in-Some.why) c.as_slice-parts.ensures c.in-Some.ensures)

pub inside_fault-returns-then-not-is_block_width : goal.inside_fault-returns-then-not-is_block_width
inside_fault-returns-then-not-is_block_width t c =
    let blocks = c.args.blocks.now in
    let block = c.in_ok-block.block.now in
    let at = slice_get_read blocks (length blocks) c.args.number block refl c.in_ok-block.ensures.lookup.3.0 c.in_ok-block.ensures.lookup.1 in
    let word = word-at c.as_slice-word-items.result.now block.words c.loop-word.word-index c.word-item.result c.loop-word-test.true c.word-item.is c.as_slice-word-items.ensures in
    width-inside blocks c.args.number block at c.loop-word.word-index c.word-item.result word (λ fine. absurd (cc (c.if-not-is_block_width.ensures.1 fine)))

pub inside_fault-returns-in-Some-behind_fault : goal.inside_fault-returns-in-Some-behind_fault
inside_fault-returns-in-Some-behind_fault t c = lower-fails c.args.blocks.now c.args.number c.in-Some-behind_fault.why c.in-Some-behind_fault.ensures
