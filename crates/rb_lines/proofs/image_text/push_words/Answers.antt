use Rattle.rb_core.proofs.TextLemmas.{appended}
use Rattle.rb_image_text.specs.Text.{root_word_text}
use Rattle.rb_lines.proofs.TextLaws.{flat_map_next}
use Rattle.rb_lines.proofs.image_text.push_words.Goals as goal

pub loop-word-preserved : goal.loop-word-preserved
loop-word-preserved c =
    appended _ _ _ _ _ _ c.loop-word.invariant c.in_ok-push_word.ensures (flat_map_next root_word_text c.args.words.now c.loop-word.word-index _ c.loop-word-test.true)
