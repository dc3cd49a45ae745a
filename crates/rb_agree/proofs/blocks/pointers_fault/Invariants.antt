use Rattle.rb_agree.specs.inner.Lists.{EachBefore}
use Rattle.rb_layout.specs.declared.layout.FlatWord.{FlatWord}
use Rattle.rb_agree.specs.inner.Blocks.{ArePartsFine}
use Rattle.rb_agree.proofs.blocks.pointers_fault.Given as goal

abbrev pub invariant-loop-word : goal.invariant-loop-word
invariant-loop-word l = EachBefore (λ (f : FlatWord). ArePartsFine f.parts) l.words l.word-index
