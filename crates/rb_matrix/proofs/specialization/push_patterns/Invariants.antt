use Rattle.std.proofs.Common.{◌≡◌, ◌++◌, take}
use Rattle.rb_matrix.proofs.specialization.push_patterns.Given as goal

abbrev pub invariant-loop-pat : goal.invariant-loop-pat
invariant-loop-pat l = l.row ≡ l.initial.row ++ take l.pat-index l.more
