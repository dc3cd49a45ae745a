use Rattle.std.proofs.Common.{◌∙◌, sym, arith}
use Rattle.rb_layout.proofs.Locating.{word-past, short-width}
use Rattle.rb_layout.proofs.locate.word_beginning.Goals as goal

pub loop-word-preserved : goal.loop-word-preserved
loop-word-preserved c =
    let short = short-width c.args.words.now c.loop-word.word-index c.word-item.result c.requires c.loop-word-test.true c.word-item.is in
    record {
      same = c.loop-word.invariant.same ∙ word-past c.args.words.now c.loop-word.word-index c.loop-word.start c.args.byte c.args.width c.loop-word.j c.word-item.result
          c.loop-word-test.true c.word-item.is (sym c.if-begins_here.ensures);
      few = (let few = c.loop-word.invariant.few in omega arith);
      at = (let at = c.loop-word.invariant.at in omega arith);
    }
