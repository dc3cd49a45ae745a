use Rattle.std.proofs.Common.{length, refl}
use Rattle.std.proofs.lemmas.Option.{slice_get_read}
use Rattle.rb_image.proofs.FillLemmas.{block_sized, stand_all, stand_more, stand_room}
use Rattle.rb_image.proofs.memory.memory_of.Goals as goal

pub place_block-requires-clause-size : goal.place_block-requires-clause-size
place_block-requires-clause-size c =
    let blocks = c.args.blocks.now in
    let is = slice_get_read blocks (length blocks) c.loop-block.block-index c.block-item.result refl c.loop-block-test.true c.block-item.is in
    block_sized blocks c.loop-block.block-index c.block-item.result c.requires.sized is

pub place_block-requires-clause-room : goal.place_block-requires-clause-room
place_block-requires-clause-room c =
    let blocks = c.args.blocks.now in
    let is = slice_get_read blocks (length blocks) c.loop-block.block-index c.block-item.result refl c.loop-block-test.true c.block-item.is in
    stand_room blocks c.requires.placed c.loop-block.block-index c.block-item.result is c.loop-block.memory c.loop-block.invariant

pub loop-block-preserved : goal.loop-block-preserved
loop-block-preserved c =
    let blocks = c.args.blocks.now in
    let is = slice_get_read blocks (length blocks) c.loop-block.block-index c.block-item.result refl c.loop-block-test.true c.block-item.is in
    let new = c.place_block.ensures in
    stand_more blocks c.requires.placed c.loop-block.block-index c.block-item.result is c.loop-block.memory c.loop-block.invariant c.place_block.new.memory new.kept new.stands new.next new.good

pub returns-clause-stand : goal.returns-clause-stand
returns-clause-stand c =
    stand_all c.args.blocks.now c.loop-block.memory c.loop-block.block-index c.loop-block-test.false c.loop-block.invariant
