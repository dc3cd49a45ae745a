use Rattle.std.proofs.Common.{drop}
use Rattle.rb_agree.specs.inner.Gathered.{words_runs}
use Rattle.rb_agree.proofs.Gathering.{GathersRest}
use Rattle.rb_agree.proofs.runs.add_words.Given as goal

abbrev pub invariant-loop-word : goal.invariant-loop-word
invariant-loop-word l = GathersRest l.places (words_runs l.words) (words_runs (drop l.word-index l.words)) l.fn.rows l.rows
