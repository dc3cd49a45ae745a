use Rattle.rb_compile.specs.Plans.{plan_of}
use Rattle.rb_compile.specs.inner.Functions.{FirstCompile}
use Rattle.rb_compile.proofs.programs.compile_all.Given as goal

abbrev pub invariant-loop-number : goal.invariant-loop-number
invariant-loop-number l = FirstCompile (plan_of l.agreed) l.number l.code
