use Rattle.std.proofs.Common.{◌≡◌, ◌++◌, map, take}
use Rattle.rb_core.specs.Coverage.{note_at}
use Rattle.rb_check.proofs.coverage.add_notes.Given as goal

abbrev pub invariant-loop-clause : goal.invariant-loop-clause
invariant-loop-clause l = l.notes ≡ l.fn.notes ++ map (note_at l.at) (take l.clause-index l.clauses)
