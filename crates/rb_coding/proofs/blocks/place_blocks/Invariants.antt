use Rattle.rb_coding.specs.inner.Nodes.{subs_of}
use Rattle.rb_coding.proofs.PlaceLemmas.{Placing}
use Rattle.rb_coding.proofs.blocks.place_blocks.Given as goal

abbrev pub invariant-loop-block : goal.invariant-loop-block
invariant-loop-block g l =
    Placing (subs_of l.table l.nodes l.node) l.blocks (g.M.ByteMemory.memory l.fn.memory) (g.M.ByteMemory.memory l.memory) l.addresses l.block-index
