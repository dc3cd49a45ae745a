use Rattle.std.proofs.Common.{◌≡◌, ℕ, [], length}
use Rattle.std.specs.Prelude.{slice_get}
use Rattle.rb_image.specs.LeafWords.{items_or_none}
use Rattle.rb_image.proofs.leaf_words.no_words.Given as goal

abbrev pub invariant-loop-block : goal.invariant-loop-block
invariant-loop-block l = record {
  long : length l.blocks.items ≡ l._block;
  none : (b : ℕ) → items_or_none (slice_get l.blocks.items b) ≡ [];
}
