use Rattle.std.proofs.Common.{◌≡◌, ◌++◌, drop}
use Rattle.rb_match.specs.inner.Clauses.{way_holes}
use Rattle.rb_match.proofs.clauses.holes_of.Given as goal

abbrev pub invariant-loop-hole : goal.invariant-loop-hole
invariant-loop-hole l = l.found ++ way_holes l.way l.name (drop l.hole-index l.holes) ≡ way_holes l.way l.name l.holes
