use Rattle.rb_facts.proofs.place.saved_place.Given as goal

abbrev pub invariant-loop-k : goal.invariant-loop-k
invariant-loop-k l = Unit {0}
