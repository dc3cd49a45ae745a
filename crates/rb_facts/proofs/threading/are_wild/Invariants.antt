use Rattle.rb_facts.proofs.Shown.{WildBelow}
use Rattle.rb_facts.proofs.threading.are_wild.Given as goal

abbrev pub invariant-loop-pat : goal.invariant-loop-pat
invariant-loop-pat l = WildBelow l.pats l.pat-index
