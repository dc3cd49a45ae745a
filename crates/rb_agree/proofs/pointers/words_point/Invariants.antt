use Rattle.rb_layout.specs.declared.layout.FlatWord.{FlatWord}
use Rattle.rb_agree.specs.Pointing.{PartsPoint}
use Rattle.rb_agree.specs.inner.Lists.{EachBefore}
use Rattle.rb_agree.proofs.pointers.words_point.Given as goal

abbrev pub invariant-loop-word : goal.invariant-loop-word
invariant-loop-word l = EachBefore (λ (f : FlatWord). PartsPoint f.parts → ⊥) l.words l.word-index
