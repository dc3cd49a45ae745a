use Rattle.std.proofs.Common.{◌≡◌, ◌++◌, drop}
use Rattle.std.specs.List.{flat_map}
use Rattle.rb_agree.specs.inner.Rows.{word_holds}
use Rattle.rb_agree.proofs.graphs.add_words.Given as goal

abbrev pub invariant-loop-word : goal.invariant-loop-word
invariant-loop-word l = l.row ++ flat_map (word_holds l.types l.prov) (drop l.word-index l.words) ≡ l.fn.row ++ flat_map (word_holds l.types l.prov) l.words
