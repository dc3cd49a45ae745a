use Rattle.rb_agree.specs.inner.Lists.{EachBefore}
use Rattle.rb_layout.specs.declared.layout.Part.{Part}
use Rattle.rb_agree.specs.inner.Blocks.{IsKind}
use Rattle.rb_agree.proofs.blocks.parts_fault.Given as goal

abbrev pub invariant-loop-part : goal.invariant-loop-part
invariant-loop-part l = EachBefore (λ (p : Part). IsKind p.l p.kind) l.parts l.part-index
