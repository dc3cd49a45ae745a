use Rattle.std.proofs.Common.{◌≡◌, take, map}
use Rattle.rb_core.specs.Clauses.{pat_of}
use Rattle.rb_compile.proofs.matches.patterns.Given as goal

abbrev pub invariant-loop-clause : goal.invariant-loop-clause
invariant-loop-clause l = l.pats ≡ map pat_of (take l.clause-index l.clauses)
