use Rattle.std.proofs.Common.{◌≡◌, drop}
use Rattle.rb_matrix.specs.Heads.{any_begins, sample}
use Rattle.rb_matrix.proofs.heads.is_known.Given as goal

abbrev pub invariant-loop-other : goal.invariant-loop-other
invariant-loop-other l = any_begins (drop l.other-index l.known) (sample l.head) ≡ any_begins l.known (sample l.head)
