use Rattle.rb_facts.proofs.place.is_looked_at.Given as goal

abbrev pub invariant-loop-pat : goal.invariant-loop-pat
invariant-loop-pat l = Unit {0}
