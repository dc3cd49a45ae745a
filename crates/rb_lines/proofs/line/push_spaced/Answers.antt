use Rattle.rb_core.proofs.TextLemmas.{appended}
use Rattle.rb_lines.proofs.WordTexts.{spaced_more}
use Rattle.rb_lines.proofs.line.push_spaced.Goals as goal

pub loop-number-preserved : goal.loop-number-preserved
loop-number-preserved c =
    appended _ _ _ _ _ _ c.loop-number.invariant c.in_ok-push_word.ensures (spaced_more c.args.numbers.now c.loop-number.number-index _ c.loop-number-test.true)
