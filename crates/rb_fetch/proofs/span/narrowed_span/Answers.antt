use Rattle.rb_fetch.proofs.Locations.{narrower}
use Rattle.rb_fetch.proofs.span.narrowed_span.Goals as goal

pub returns-then-is_within : goal.returns-then-is_within
returns-then-is_within c =
    let h = c.is_within.ensures c.if-is_within.true in
    rw c.into_inner-read.ensures (narrower c.args.span c.in-Bits.inner c.in-Bits.from c.in-Bits.count c.in-Bits.is h.0 h.1)
