use Rattle.std.proofs.Common.{◌≡◌, drop}
use Rattle.rb_matrix.specs.inner.Borrowed.{patterns_of}
use Rattle.rb_matrix.specs.inner.Open.{is_open}
use Rattle.rb_matrix.proofs.open.are_open.Given as goal

abbrev pub invariant-loop-pat : goal.invariant-loop-pat
invariant-loop-pat l = is_open (patterns_of (drop l.pat-index l.pats)) ≡ is_open (patterns_of l.pats)
