use Rattle.rb_agree.specs.inner.Held.{AreOnce}
use Rattle.rb_agree.proofs.held.units_fault.Given as goal

abbrev pub invariant-loop-unit : goal.invariant-loop-unit
invariant-loop-unit l = AreOnce l.runs l.unit
