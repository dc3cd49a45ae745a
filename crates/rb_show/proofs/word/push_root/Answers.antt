use Rattle.rb_show.specs.Lines.{root_word_lines}
use Rattle.rb_show.proofs.Texts.{numbered_next}
use Rattle.rb_show.proofs.word.push_root.Goals as goal

pub loop-i-preserved : goal.loop-i-preserved
loop-i-preserved c =
    numbered_next root_word_lines c.args.words.now c.loop-i.i c.index-words-i.result _ _ _ c.loop-i-test.true c.index-words-i.is c.loop-i.invariant c.in_ok-push_root_word.ensures
