use Rattle.rb_facts.proofs.spots.has_constructor.Given as goal

abbrev pub invariant-loop-sub : goal.invariant-loop-sub
invariant-loop-sub l = Unit {0}
