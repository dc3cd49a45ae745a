use Rattle.std.proofs.Common.{subst}
use Rattle.rb_agree.proofs.Lists.{before-more, before-all}
use Rattle.rb_layout.specs.declared.layout.FlatWord.{FlatWord}
use Rattle.rb_agree.specs.inner.Blocks.{ArePartsFine}
use Rattle.rb_agree.proofs.blocks.pointers_fault.Goals as goal

pub loop-word-preserved : goal.loop-word-preserved
loop-word-preserved c = before-more (λ (f : FlatWord). ArePartsFine f.parts) c.args.words.now c.loop-word.word-index c.word-item.result c.loop-word-test.true c.word-item.is (subst ArePartsFine c.as_slice.ensures c.in_default.ensures) c.loop-word.invariant

pub returns : goal.returns
returns c = before-all (λ (f : FlatWord). ArePartsFine f.parts) c.args.words.now c.loop-word.word-index c.loop-word-test.false c.loop-word.invariant
