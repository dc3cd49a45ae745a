use Rattle.std.proofs.Common.{◌≡◌, ℕ, ◌||◌, drop}
use Rattle.rb_peek.specs.inner.Checking.{has_word, is_kept_at}
use Rattle.rb_peek.proofs.path_words.PathWords.of.Given as goal

-- the words so far and those that are left are all
abbrev pub invariant-loop-word : goal.invariant-loop-word
invariant-loop-word l = (base place : ℕ) → is_kept_at l.words base place ≡ (has_word l.found base place || is_kept_at (drop l.word-index l.words) base place)
