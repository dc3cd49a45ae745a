use Rattle.std.proofs.Common.{◌≡◌, ℕ, ◌<◌, length, Some, Ok}
use Rattle.std.specs.Prelude.{slice_get, slice_index}
use Rattle.rb_bytes.specs.Memory.{load_of}
use Rattle.rb_layout.specs.declared.layout.FlatWord.{FlatWord}
use Rattle.rb_layout.specs.Words.{begins_at}
use Rattle.rb_coding.proofs.loading.load_words.Given as goal

abbrev pub invariant-loop-word : goal.invariant-loop-word
invariant-loop-word g l = record {
  offset : l.offset ≡ begins_at l.words l.word-index;
  count : length l.loaded ≡ l.word-index;
  words : (j : ℕ) (f : FlatWord) → j < l.word-index → slice_get l.words j ≡ Some f
      → load_of (g.M.ByteMemory.memory l.memory) l.base (begins_at l.words j) f.width ≡ Ok (slice_index l.loaded j);
}
