use Rattle.std.proofs.Common.{length, refl, sym}
use Rattle.std.proofs.lemmas.Option.{slice_get_past, slice_get_read}
use Rattle.rb_image.proofs.AscendingBlocks.{no_block, other_block, the_block}
use Rattle.rb_image.proofs.blocks.block_at.Goals as goal

pub returns-in-None : goal.returns-in-None
returns-in-None c =
    let blocks = c.args.blocks.now in
    let k = c.first_from.result in
    sym (no_block blocks c.requires.placed c.args.address k c.first_from.ensures (slice_get_past blocks k c.in-None.ensures.lookup.3))

pub returns-then-block-address : goal.returns-then-block-address
returns-then-block-address c =
    let blocks = c.args.blocks.now in
    let k = c.first_from.result in
    let l = c.in-Some.ensures.lookup in
    let is = slice_get_read blocks (length blocks) k c.in-Some.block.now refl l.3.0 l.1 in
    sym (the_block blocks c.requires.placed c.args.address k c.first_from.ensures c.in-Some.block.now is c.if-block-address.true)

pub returns-else-block-address : goal.returns-else-block-address
returns-else-block-address c =
    let blocks = c.args.blocks.now in
    let k = c.first_from.result in
    let l = c.in-Some.ensures.lookup in
    let is = slice_get_read blocks (length blocks) k c.in-Some.block.now refl l.3.0 l.1 in
    sym (other_block blocks c.requires.placed c.args.address k c.first_from.ensures c.in-Some.block.now is c.if-block-address.false)
