use Rattle.rb_facts.proofs.Shown.{NoneBelow}
use Rattle.rb_facts.proofs.threading.first_leaf.Given as goal

abbrev pub invariant-loop-i : goal.invariant-loop-i
invariant-loop-i l = NoneBelow l.leaves l.pat l.i
