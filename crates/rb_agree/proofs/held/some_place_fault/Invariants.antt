use Rattle.rb_layout.specs.declared.opens.OpenPosition.{OpenPosition}
use Rattle.rb_layout.specs.Opens.{open_at}
use Rattle.rb_agree.specs.inner.Lists.{EachBefore}
use Rattle.rb_agree.specs.inner.Held.{HoldsPlace}
use Rattle.rb_agree.proofs.held.some_place_fault.Given as goal

abbrev pub invariant-loop-n : goal.invariant-loop-n
invariant-loop-n l = EachBefore (λ (place : OpenPosition). HoldsPlace l.program l.leaf (open_at place)) l.places l.n
