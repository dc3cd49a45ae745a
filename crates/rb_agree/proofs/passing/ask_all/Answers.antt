use Rattle.rb_agree.specs.inner.Passing.{test_of}
use Rattle.rb_agree.proofs.Alikeness.{priors-none}
use Rattle.rb_agree.proofs.Walking.{asked-start, asked-more, asked-end}
use Rattle.rb_agree.proofs.passing.ask_all.Goals as goal

pub loop-n-init : goal.loop-n-init
loop-n-init c = record {
  asked = asked-start c.args.types.now c.args.layouts.now c.args.leaves.now (test_of c.args.asking.now) c.args.span.first c.args.marks.now;
  priors = priors-none c.args.types.now c.args.layouts.now c.args.leaves.now (test_of c.args.asking.now) c.new-priors.result c.new-priors.ensures;
}

pub loop-n-preserved : goal.loop-n-preserved
loop-n-preserved c = record {
  asked =
      asked-more c.args.types.now c.args.layouts.now c.args.leaves.now (test_of c.args.asking.now) c.args.span.first c.loop-n.n c.args.marks.now c.loop-n.marks c.ask.new.marks
      c.loop-n.invariant.asked c.in_ok-ask.ensures.asked;
  priors = c.in_ok-ask.ensures.priors;
}

pub returns : goal.returns
returns c =
    asked-end c.args.types.now c.args.layouts.now c.args.leaves.now (test_of c.args.asking.now) c.args.span c.loop-n.n c.args.marks.now c.loop-n.marks
    c.loop-n-test.false c.loop-n.invariant.asked
