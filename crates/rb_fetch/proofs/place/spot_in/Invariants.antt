use Rattle.std.proofs.Common.{◌≡◌, ℕ, ◌<◌, Some}
use Rattle.std.specs.Prelude.{slice_get}
use Rattle.rb_layout.specs.declared.layout.FlatWord.{FlatWord}
use Rattle.rb_fetch.specs.inner.Placing.{NoneIn}
use Rattle.rb_fetch.proofs.place.spot_in.Given as goal

abbrev pub invariant-loop-word : goal.invariant-loop-word
invariant-loop-word l = (j : ℕ) (f : FlatWord) → j < l.word → slice_get l.words j ≡ Some f → NoneIn l.path l.wanted f.parts
