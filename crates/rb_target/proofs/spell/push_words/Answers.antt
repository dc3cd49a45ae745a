use Rattle.rb_core.proofs.TextLemmas.{appended}
use Rattle.rb_target.proofs.Texts.{spaced_text_more}
use Rattle.rb_target.proofs.spell.push_words.Goals as goal

pub loop-word-preserved : goal.loop-word-preserved
loop-word-preserved c =
    appended _ _ _ _ _ _ c.loop-word.invariant c.in_ok-push_word.ensures (spaced_text_more c.args.words.now c.loop-word.word-index _ c.loop-word-test.true)
