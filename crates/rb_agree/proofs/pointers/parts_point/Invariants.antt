use Rattle.rb_layout.specs.declared.layout.Part.{Part}
use Rattle.rb_agree.specs.Pointing.{PartPoints}
use Rattle.rb_agree.specs.inner.Lists.{EachBefore}
use Rattle.rb_agree.proofs.pointers.parts_point.Given as goal

abbrev pub invariant-loop-part : goal.invariant-loop-part
invariant-loop-part l = EachBefore (λ (p : Part). PartPoints p → ⊥) l.parts l.part-index
