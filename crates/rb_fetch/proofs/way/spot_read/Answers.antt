use Rattle.rb_fetch.proofs.Spans.{range_reads}
use Rattle.rb_fetch.proofs.way.spot_read.Goals as goal

pub returns : goal.returns
returns c =
    range_reads c.args.leaf.now c.args.words.now c.in_ok-span.span c.args.spot.part.now.l c.args.spot.part.now.kind c.in_ok-span.ensures c.in_ok-read.read c.in_ok-read.ensures
