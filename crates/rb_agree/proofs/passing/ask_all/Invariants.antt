use Rattle.rb_agree.specs.inner.Lists.{EachOf}
use Rattle.rb_agree.specs.inner.Passing.{AreAsked, IsPrior, test_of}
use Rattle.rb_agree.proofs.passing.ask_all.Given as goal

abbrev pub invariant-loop-n : goal.invariant-loop-n
invariant-loop-n l = record {
  asked : AreAsked l.types l.layouts l.leaves (test_of l.asking) (record { first = l.fn.span.first; end = l.n }) l.fn.marks l.marks;
  priors : EachOf (IsPrior l.types l.layouts l.leaves (test_of l.asking)) l.priors;
}
