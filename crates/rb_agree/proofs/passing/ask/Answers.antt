use Rattle.std.proofs.Common.{subst}
use Rattle.std.specs.Bool.{OnTrue}
use Rattle.rb_layout.specs.A7.{MeetsTest}
use Rattle.rb_agree.specs.inner.Passing.{test_of}
use Rattle.rb_agree.proofs.Alikeness.{priors-more, spared-meets}
use Rattle.rb_agree.proofs.Lists.{at-item}
use Rattle.rb_agree.proofs.Walking.{asked-fine}
use Rattle.rb_agree.proofs.passing.ask.Goals as goal

pub returns-then-is_spared-clause-asked : goal.returns-then-is_spared-clause-asked
returns-then-is_spared-clause-asked c =
    asked-fine c.args.types.now c.args.layouts.now c.args.leaves.now (test_of c.args.asking.now) c.args.n c.args.marks.now c.in-Some.leaf.now
    (at-item c.args.leaves.now c.args.n c.in-Some.leaf.now c.in-Some.ensures.lookup.3.0 c.in-Some.ensures.lookup.1)
    (spared-meets c.args.types.now c.args.layouts.now c.args.leaves.now c.in-Some.leaf.now c.args.asking.now c.as_slice.result.now c.args.priors.now c.as_slice.ensures c.if-is_spared.ensures c.requires.priors)

pub meets-requires : goal.meets-requires
meets-requires c = c.requires.readable c.args.n c.in-Some.leaf.now (at-item c.args.leaves.now c.args.n c.in-Some.leaf.now c.in-Some.ensures.lookup.3.0 c.in-Some.ensures.lookup.1)

pub is_kept-requires : goal.is_kept-requires
is_kept-requires c = c.requires.readable c.args.n c.in-Some.leaf.now (at-item c.args.leaves.now c.args.n c.in-Some.leaf.now c.in-Some.ensures.lookup.3.0 c.in-Some.ensures.lookup.1)

pub returns-in_ok-push-clause-asked : goal.returns-in_ok-push-clause-asked
returns-in_ok-push-clause-asked c =
    asked-fine c.args.types.now c.args.layouts.now c.args.leaves.now (test_of c.args.asking.now) c.args.n c.args.marks.now c.in-Some.leaf.now
    (at-item c.args.leaves.now c.args.n c.in-Some.leaf.now c.in-Some.ensures.lookup.3.0 c.in-Some.ensures.lookup.1)
    (subst (λ b. OnTrue b (MeetsTest c.args.types.now c.args.layouts.now c.in-Some.leaf.now (test_of c.args.asking.now))) c.if-not-branch.false c.in_ok-meets.ensures)

pub returns-in_ok-push-clause-priors : goal.returns-in_ok-push-clause-priors
returns-in_ok-push-clause-priors c =
    priors-more c.args.types.now c.args.layouts.now c.args.leaves.now (test_of c.args.asking.now) c.args.priors.now c.push.new.self c.args.n c.in-Some.leaf.now c.in_ok-push.ensures.ok
    (at-item c.args.leaves.now c.args.n c.in-Some.leaf.now c.in-Some.ensures.lookup.3.0 c.in-Some.ensures.lookup.1)
    (subst (λ b. OnTrue b (MeetsTest c.args.types.now c.args.layouts.now c.in-Some.leaf.now (test_of c.args.asking.now))) c.if-not-branch.false c.in_ok-meets.ensures)
    c.requires.priors

pub returns-else-is_kept-clause-asked : goal.returns-else-is_kept-clause-asked
returns-else-is_kept-clause-asked c =
    asked-fine c.args.types.now c.args.layouts.now c.args.leaves.now (test_of c.args.asking.now) c.args.n c.args.marks.now c.in-Some.leaf.now
    (at-item c.args.leaves.now c.args.n c.in-Some.leaf.now c.in-Some.ensures.lookup.3.0 c.in-Some.ensures.lookup.1)
    (subst (λ b. OnTrue b (MeetsTest c.args.types.now c.args.layouts.now c.in-Some.leaf.now (test_of c.args.asking.now))) c.if-not-branch.false c.in_ok-meets.ensures)
