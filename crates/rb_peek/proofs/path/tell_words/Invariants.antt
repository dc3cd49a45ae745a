use Rattle.std.proofs.Common.{◌≡◌, ◌<◌, ◌^◌, ℕ, Some}
use Rattle.std.specs.Prelude.{slice_get}
use Rattle.rb_peek.proofs.path.tell_words.Given as goal

abbrev pub invariant-loop-word : goal.invariant-loop-word
invariant-loop-word l = (k n : ℕ) → k < l.word-index → slice_get l.words k ≡ Some n → n < 2 ^ 64
