use Rattle.std.proofs.Common.{◌≡◌, take}
use Rattle.std.specs.Prelude.{slice_index}
use Rattle.rb_bytes.specs.Memory.{IsGood}
use Rattle.rb_layout.specs.Words.{begins_at}
use Rattle.rb_rel.specs.Storing.{with_words}
use Rattle.rb_coding.specs.inner.Nodes.{subs_of}
use Rattle.rb_coding.specs.Packing.{word_made}
use Rattle.rb_coding.proofs.blocks.store_words.Given as goal

abbrev pub invariant-loop-word : goal.invariant-loop-word
invariant-loop-word g l = record {
  offset : l.offset ≡ begins_at l.words l.word-index;
  same : g.M.ByteMemory.memory l.memory
      ≡ record (g.M.ByteMemory.memory l.fn.memory) { bytes = with_words (word_made (subs_of l.table l.nodes l.node) (slice_index l.addresses)) (take l.word-index l.words) l.base (g.M.ByteMemory.memory l.fn.memory).bytes };
  good : IsGood (g.M.ByteMemory.memory l.memory);
}
