use Rattle.rb_facts.proofs.knowledge.leaf_known.Given as goal

abbrev pub invariant-loop-place : goal.invariant-loop-place
invariant-loop-place l = Unit {0}
