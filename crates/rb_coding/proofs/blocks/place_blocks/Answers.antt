use Rattle.rb_layout.specs.Words.{size_of}
use Rattle.rb_coding.specs.inner.Nodes.{subs_of}
use Rattle.rb_coding.proofs.GrowLemmas.{place_ok, place_err}
use Rattle.rb_coding.proofs.PlaceLemmas.{got, block_is, placing_none, placing_next, placing_stops, placing_all, placed_found, placed_room, rest_of}
use Rattle.rb_coding.proofs.blocks.place_blocks.Goals as goal

pub loop-block-init : goal.loop-block-init
loop-block-init g c = rw c.new-addresses.ensures (placing_none (subs_of c.args.table.now c.args.nodes.now c.args.node) c.args.blocks.now (g.M.ByteMemory.memory c.args.memory.now) c.requires.good)

pub block_size-requires : goal.block_size-requires
block_size-requires g c =
    let at = got c.args.blocks.now c.loop-block.block-index c.block-item.result c.loop-block-test.true c.block-item.is in
    c.requires.placeable.short c.loop-block.block-index c.block-item.result at

pub place-requires-clause-size : goal.place-requires-clause-size
place-requires-clause-size g c =
    let at = got c.args.blocks.now c.loop-block.block-index c.block-item.result c.loop-block-test.true c.block-item.is in
    rw c.block_size.ensures (c.requires.placeable.sizes c.loop-block.block-index c.block-item.result at)

pub place-requires-clause-align : goal.place-requires-clause-align
place-requires-clause-align g c =
    let at = got c.args.blocks.now c.loop-block.block-index c.block-item.result c.loop-block-test.true c.block-item.is in
    c.requires.placeable.aligns c.loop-block.block-index c.block-item.result at

pub store_words-requires-clause-placed : goal.store_words-requires-clause-placed
store_words-requires-clause-placed g c =
    let m = g.M.ByteMemory.memory c.loop-block.memory in
    let block = c.block-item.result in
    let at = got c.args.blocks.now c.loop-block.block-index block c.loop-block-test.true c.block-item.is in
    let place = place_ok m (size_of block) block.align c.in-Ok.base (g.M.ByteMemory.memory c.place.new.self) (rw c.block_size.ensures at c.in-Ok.ensures.value) in
    rw c.as_slice-words.ensures
    (placed_found m (g.M.ByteMemory.memory c.place.new.self) block c.in-Ok.base c.loop-block.invariant.progress.grown.good (block_is c.args.blocks.now c.requires.placeable c.loop-block.block-index block at) place)

pub store_words-requires-clause-room : goal.store_words-requires-clause-room
store_words-requires-clause-room g c =
    let m = g.M.ByteMemory.memory c.loop-block.memory in
    let block = c.block-item.result in
    let place = place_ok m (size_of block) block.align c.in-Ok.base (g.M.ByteMemory.memory c.place.new.self) (rw c.block_size.ensures at c.in-Ok.ensures.value) in
    rw c.as_slice-words.ensures (placed_room m (g.M.ByteMemory.memory c.place.new.self) block c.in-Ok.base c.loop-block.invariant.progress.grown.good place)

pub store_words-requires-clause-widths : goal.store_words-requires-clause-widths
store_words-requires-clause-widths g c =
    let at = got c.args.blocks.now c.loop-block.block-index c.block-item.result c.loop-block-test.true c.block-item.is in
    rw c.as_slice-words.ensures (c.requires.placeable.widths c.loop-block.block-index c.block-item.result at)

pub returns-in-Err : goal.returns-in-Err
returns-in-Err g c =
    let m = g.M.ByteMemory.memory c.loop-block.memory in
    let block = c.block-item.result in
    let at = got c.args.blocks.now c.loop-block.block-index block c.loop-block-test.true c.block-item.is in
    let none = place_err m (size_of block) block.align c.in-Err.full (g.M.ByteMemory.memory c.place.new.self) (rw c.block_size.ensures at c.in-Err.ensures.value) in
    let rest = rest_of c.args.blocks.now c.loop-block.block-index block at in
    placing_stops (subs_of c.args.table.now c.args.nodes.now c.args.node) c.args.blocks.now c.requires.placeable (g.M.ByteMemory.memory c.args.memory.now) m c.loop-block.addresses c.loop-block.block-index block at c.loop-block.invariant
    (g.M.ByteMemory.memory c.place.new.self) c.in-Err.full none rest.0 rest.1

pub loop-block-preserved : goal.loop-block-preserved
loop-block-preserved g c =
    let m = g.M.ByteMemory.memory c.loop-block.memory in
    let block = c.block-item.result in
    let at = got c.args.blocks.now c.loop-block.block-index block c.loop-block-test.true c.block-item.is in
    let place = place_ok m (size_of block) block.align c.in-Ok.base (g.M.ByteMemory.memory c.place.new.self) (rw c.block_size.ensures at c.in-Ok.ensures.value) in
    rw c.in_ok-push-in-Ok.ensures.ok
    (placing_next (subs_of c.args.table.now c.args.nodes.now c.args.node) c.args.blocks.now c.requires.placeable (g.M.ByteMemory.memory c.args.memory.now) m c.loop-block.addresses c.loop-block.block-index block at c.loop-block.invariant
    (g.M.ByteMemory.memory c.place.new.self) (g.M.ByteMemory.memory c.store_words.new.memory) c.in-Ok.base place (rw (c.as_slice-words.ensures, c.as_slice.ensures) at c.store_words.ensures.value))

pub returns : goal.returns
returns g c =
    placing_all (subs_of c.args.table.now c.args.nodes.now c.args.node) c.args.blocks.now (g.M.ByteMemory.memory c.args.memory.now) (g.M.ByteMemory.memory c.loop-block.memory) c.loop-block.addresses c.loop-block.block-index
    c.loop-block-test.false c.loop-block.invariant
