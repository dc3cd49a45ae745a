use Rattle.rb_facts.proofs.saving.spot_at.Given as goal

abbrev pub invariant-loop-k : goal.invariant-loop-k
invariant-loop-k l = Unit {0}
