use Rattle.std.proofs.Common.{◌++◌, ◌∙◌, ap, arith}
use Rattle.rb_layout.proofs.Locating.{short-width}
use Rattle.rb_show.specs.Lines.{block_word_lines, word_lines_at}
use Rattle.rb_show.proofs.Texts.{numbered_next}
use Rattle.rb_show.proofs.Words.{bytes_next}
use Rattle.rb_show.proofs.word.push_block_words.Goals as goal

pub overflow_add-byte : goal.overflow_add-byte
overflow_add-byte c =
    let short = short-width c.args.words.now c.loop-i.i c.index-words-i.result c.requires c.loop-i-test.true c.index-words-i.is in
    let few = c.loop-i.invariant.few in
    let many = c.requires.few in
    omega (arith, c.loop-i-test.true)

pub loop-i-preserved : goal.loop-i-preserved
loop-i-preserved c =
    let word = c.index-words-i.result in
    let i = c.loop-i.i in
    let short = short-width c.args.words.now i word c.requires c.loop-i-test.true c.index-words-i.is in
    let next = bytes_next c.args.words.now i word c.loop-i-test.true c.index-words-i.is in
    let byte = c.loop-i.invariant.byte in
    let few = c.loop-i.invariant.few in
    record {
      text = numbered_next (block_word_lines c.args.words.now) c.args.words.now i word _ _ _ c.loop-i-test.true c.index-words-i.is c.loop-i.invariant.text
          (c.in_ok-push_block_word.ensures ∙ ap (λ b. c.loop-i.text.items ++ word_lines_at b i word) byte);
      byte = omega (arith, next, byte);
      few = omega (arith, next, byte, few, short);
    }
