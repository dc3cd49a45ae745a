use Rattle.std.proofs.Common.{take}
use Rattle.rb_image_text.proofs.StopLemmas.{read_halved, stops_here, one_more}
use Rattle.rb_image_text.proofs.read.read_bytes.Goals as goal

pub feed-requires : goal.feed-requires
feed-requires c = read_halved (take c.loop-at.at c.args.bytes.now) c.loop-at.reader c.loop-at.invariant

pub returns-then-not-branch : goal.returns-then-not-branch
returns-then-not-branch c =
    stops_here c.args.bytes.now c.loop-at.at c.loop-at.reader c.loop-at-test.true c.loop-at.invariant (rw c.if-not-branch.true at c.in_ok-feed.ensures)

pub loop-at-preserved : goal.loop-at-preserved
loop-at-preserved c =
    one_more c.args.bytes.now c.loop-at.at c.loop-at.reader c.feed.new.self c.loop-at-test.true c.loop-at.invariant (rw c.if-not-branch.false at c.in_ok-feed.ensures)
