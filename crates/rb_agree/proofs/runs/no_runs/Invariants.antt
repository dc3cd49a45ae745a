use Rattle.rb_agree.specs.inner.Gathered.{AreNone}
use Rattle.rb_agree.proofs.runs.no_runs.Given as goal

abbrev pub invariant-loop-n : goal.invariant-loop-n
invariant-loop-n l = AreNone l._n l.rows
