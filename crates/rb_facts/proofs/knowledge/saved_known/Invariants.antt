use Rattle.rb_facts.proofs.knowledge.saved_known.Given as goal

abbrev pub invariant-loop-i : goal.invariant-loop-i
invariant-loop-i l = Unit {0}
