use Rattle.rb_trim.specs.inner.Stepping.{AreTrimmed}
use Rattle.rb_trim.proofs.trim.trim_funs.Given as goal

abbrev pub invariant-loop-fun : goal.invariant-loop-fun
invariant-loop-fun l = AreTrimmed l.funs l.fun-index l.new
