use Rattle.std.proofs.Common.{length}
use Rattle.rb_image.proofs.FillLemmas.{block_stands, found_next}
use Rattle.rb_image.proofs.memory.place_block.Goals as goal

pub store_bytes-requires-clause-placed : goal.store_bytes-requires-clause-placed
store_bytes-requires-clause-placed c =
    found_next c.fill_to.new.memory c.place_next.new.memory c.args.block.now.at (length c.as_slice-bytes.result.now) c.fill_to.ensures.good c.fill_to.ensures.next c.place_next.ensures.value

pub returns-clause-stands : goal.returns-clause-stands
returns-clause-stands c =
    block_stands c.args.memory.now c.fill_to.new.memory c.place_next.new.memory c.store_bytes.new.memory c.args.block.now c.fill_to.ensures.kept c.fill_to.ensures.good c.fill_to.ensures.next
    (rw c.as_slice-bytes.ensures at c.place_next.ensures.value) (rw c.as_slice-bytes.ensures at c.store_bytes.ensures)
