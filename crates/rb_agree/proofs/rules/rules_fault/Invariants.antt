use Rattle.rb_agree.proofs.Ruling.{RulesPass}
use Rattle.rb_agree.proofs.rules.rules_fault.Given as goal

abbrev pub invariant-loop-rule : goal.invariant-loop-rule
invariant-loop-rule l = RulesPass l.program l.layouts l.rules l.rule-index
