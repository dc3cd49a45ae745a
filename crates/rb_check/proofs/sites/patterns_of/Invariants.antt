use Rattle.std.proofs.Common.{◌≡◌, map, take}
use Rattle.rb_check.proofs.sites.patterns_of.Given as goal

abbrev pub invariant-loop-clause : goal.invariant-loop-clause
invariant-loop-clause l = l.patterns ≡ map (λ c. c.pat) (take l.clause-index l.clauses)
