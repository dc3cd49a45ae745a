use Rattle.rb_facts.proofs.spots.is_deep.Given as goal

abbrev pub invariant-loop-leaf : goal.invariant-loop-leaf
invariant-loop-leaf l = Unit {0}
