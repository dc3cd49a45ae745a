use Rattle.rb_agree.proofs.Splitting.{distinct-all, distinct-more, has-more, held-twice}
use Rattle.rb_agree.proofs.splits.twice.Goals as goal

pub returns-then-not-branch : goal.returns-then-not-branch
returns-then-not-branch c =
    held-twice c.loop-k.before c.args.literals.now c.loop-k.k c.in_ok-insert.field-0 c.loop-k-test.true c.loop-k.invariant.before c.in_ok-insert.ensures.added c.if-not-branch.true

pub loop-k-preserved : goal.loop-k-preserved
loop-k-preserved c = record {
  distinct =
      distinct-more c.loop-k.before c.args.literals.now c.loop-k.k c.in_ok-insert.field-0 c.loop-k-test.true c.loop-k.invariant.before c.in_ok-insert.ensures.added
      c.if-not-branch.false c.loop-k.invariant.distinct;
  before = has-more c.loop-k.before c.insert.new.self c.args.literals.now c.loop-k.k c.loop-k-test.true c.loop-k.invariant.before c.in_ok-insert.ensures.updates;
}

pub returns : goal.returns
returns c = distinct-all c.args.literals.now c.loop-k.k c.loop-k-test.false c.loop-k.invariant.distinct
