use Rattle.rb_agree.proofs.Ruling.{TypesPass}
use Rattle.rb_agree.proofs.rules.rule_fault.Given as goal

abbrev pub invariant-loop-t : goal.invariant-loop-t
invariant-loop-t l = TypesPass l.program l.layouts l.rule l.t
