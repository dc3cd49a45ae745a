use Rattle.std.proofs.Common.{◌≡◌, ◌++◌, drop}
use Rattle.rb_fetch.specs.inner.Choosing.{holes_from}
use Rattle.rb_fetch.proofs.choice.choices_of.Given as goal

abbrev pub invariant-loop-k : goal.invariant-loop-k
invariant-loop-k l = l.holes ++ holes_from l.k (drop l.k l.way-items) ≡ holes_from 0 l.way-items
