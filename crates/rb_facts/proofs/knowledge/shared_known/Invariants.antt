use Rattle.rb_facts.specs.inner.Knowing.{SharesKnown}
use Rattle.rb_facts.proofs.knowledge.shared_known.Given as goal

abbrev pub invariant-loop-i : goal.invariant-loop-i
invariant-loop-i l = SharesKnown l.known l.other l.both
