use Rattle.rb_layout.specs.declared.layout.Block.{Block}
use Rattle.rb_agree.specs.Pointing.{WordsPoint}
use Rattle.rb_agree.specs.inner.Lists.{EachBefore}
use Rattle.rb_agree.proofs.pointers.blocks_point.Given as goal

abbrev pub invariant-loop-block : goal.invariant-loop-block
invariant-loop-block l = EachBefore (λ (b : Block). WordsPoint b.words → ⊥) l.blocks l.block-index
