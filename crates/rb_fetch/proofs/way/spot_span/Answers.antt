use Rattle.rb_fetch.proofs.Spans.{spans_part}
use Rattle.rb_fetch.proofs.way.spot_span.Goals as goal

pub returns : goal.returns
returns c =
    spans_part c.args.leaf.now c.requires.leaf c.args.words.now c.in_ok-loc.loc c.args.spot.part.now.l c.args.spot.part.now.kind c.in_ok-loc.ensures c.in_ok-span.span
    (rw c.root_width.ensures at c.in_ok-span.ensures)
