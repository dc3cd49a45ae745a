use Rattle.rb_agree.specs.inner.Lists.{EachBefore}
use Rattle.rb_agree.specs.inner.Blocks.{HasWidth}
use Rattle.rb_agree.proofs.blocks.width_fault.Given as goal

abbrev pub invariant-loop-word : goal.invariant-loop-word
invariant-loop-word l = EachBefore HasWidth l.words l.word-index
