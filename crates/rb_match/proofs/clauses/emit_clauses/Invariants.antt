use Rattle.rb_match.specs.inner.Clauses.{TriesAll}
use Rattle.rb_match.proofs.clauses.emit_clauses.Given as goal

abbrev pub invariant-loop-i : goal.invariant-loop-i
invariant-loop-i l = TriesAll l.agreed l.ty l.words l.pats l.i l.fn.body l.body l.holes
