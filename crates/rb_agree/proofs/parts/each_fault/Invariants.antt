use Rattle.rb_layout.specs.Positions.{open_positions}
use Rattle.rb_agree.specs.declared.items.Written.{Written}
use Rattle.rb_agree.specs.Written.{shown_part}
use Rattle.rb_agree.specs.inner.Lists.{EachBefore}
use Rattle.rb_agree.specs.inner.Parts.{IsPartFine}
use Rattle.rb_agree.proofs.parts.each_fault.Given as goal

abbrev pub invariant-loop-part : goal.invariant-loop-part
invariant-loop-part l = EachBefore (λ (w : Written). IsPartFine l.decls (open_positions l.types l.prov) l.width (shown_part w)) l.parts l.part-index
