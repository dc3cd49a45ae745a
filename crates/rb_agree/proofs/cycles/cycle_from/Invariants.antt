use Rattle.rb_agree.specs.inner.Ways.{state}
use Rattle.rb_agree.proofs.Searching.{IsSearch}
use Rattle.rb_agree.proofs.cycles.cycle_from.Given as goal

abbrev pub invariant-loop-i : goal.invariant-loop-i
invariant-loop-i l = IsSearch l.graph l.start (state l.marks l.found) l.i
