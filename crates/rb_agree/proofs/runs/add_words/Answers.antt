use Rattle.std.proofs.Common.{◌+◌, List, drop, subst}
use Rattle.rb_layout.specs.declared.layout.Part.{Part}
use Rattle.rb_agree.specs.inner.Held.{word_runs}
use Rattle.rb_agree.specs.inner.Gathered.{Gathers, words_runs, parts_runs}
use Rattle.rb_agree.proofs.Gathering.{rest-last, rest-next}
use Rattle.rb_agree.proofs.Lists.{flat-end, flat-next}
use Rattle.rb_agree.proofs.runs.add_words.Goals as goal

pub loop-word-preserved : goal.loop-word-preserved
loop-word-preserved c =
    rest-next c.args.places.now (words_runs c.args.words.now) (words_runs (drop c.loop-word.word-index c.args.words.now)) (words_runs (drop (c.loop-word.word-index + 1) c.args.words.now))
    (λ ty path. word_runs ty path c.word-item.result) c.args.rows.now c.loop-word.rows c.add_parts.new.rows
    (λ ty path. flat-next (word_runs ty path) c.args.words.now c.loop-word.word-index c.word-item.result c.loop-word-test.true c.word-item.is)
    c.loop-word.invariant (subst (λ (xs : List Part). Gathers c.args.places.now (parts_runs xs) c.loop-word.rows c.add_parts.new.rows) c.as_slice.ensures c.in_ok-add_parts.ensures)

pub returns : goal.returns
returns c =
    rest-last c.args.places.now (words_runs c.args.words.now) (words_runs (drop c.loop-word.word-index c.args.words.now)) c.args.rows.now c.loop-word.rows
    (λ ty path. flat-end (word_runs ty path) c.args.words.now c.loop-word.word-index c.loop-word-test.false) c.loop-word.invariant
