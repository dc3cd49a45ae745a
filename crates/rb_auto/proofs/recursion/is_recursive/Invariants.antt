use Rattle.rb_auto.specs.inner.Graphs.{state}
use Rattle.rb_auto.proofs.Searching.{IsSearch}
use Rattle.rb_auto.proofs.recursion.is_recursive.Given as goal

abbrev pub invariant-loop-i : goal.invariant-loop-i
invariant-loop-i l = IsSearch l.graph l.start (state l.marks l.found) l.i
