use Rattle.rb_target.proofs.StopLemmas.{stops_here, one_more}
use Rattle.rb_target.proofs.read.text.read_bytes.Goals as goal

pub returns-then-not-branch : goal.returns-then-not-branch
returns-then-not-branch c =
    stops_here c.args.bytes.now c.loop-at.at 0 c.loop-at.reader c.loop-at-test.true c.loop-at.invariant (rw c.if-not-branch.true at c.in_ok-feed.ensures)

pub loop-at-preserved : goal.loop-at-preserved
loop-at-preserved c =
    one_more c.args.bytes.now c.loop-at.at 0 c.loop-at.reader c.feed.new.self c.loop-at-test.true c.loop-at.invariant (rw c.if-not-branch.false at c.in_ok-feed.ensures)
