use Rattle.rb_layout.specs.declared.layout.Leaf.{Leaf}
use Rattle.rb_agree.specs.Pointing.{LeafPoints}
use Rattle.rb_agree.specs.inner.Lists.{EachBefore}
use Rattle.rb_agree.proofs.pointers.leaves_point.Given as goal

abbrev pub invariant-loop-leaf : goal.invariant-loop-leaf
invariant-loop-leaf l = EachBefore (λ (x : Leaf). LeafPoints x → ⊥) l.leaves l.leaf-index
