use Rattle.rb_trim.specs.inner.Stepping.{Walks}
use Rattle.rb_trim.proofs.steps.walk.Given as goal

abbrev pub invariant-loop-pc : goal.invariant-loop-pc
invariant-loop-pc l = Walks l.hints l.body l.pc l.new
