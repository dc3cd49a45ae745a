use Rattle.rb_fetch.proofs.span.span_at.Goals as goal

pub returns : goal.returns
returns c = record {
  first = c.narrowed_span-first.result;
  begins = rw c.in_ok-read.ensures at c.narrowed_span-first.ensures;
  ends = rw c.as_slice.ensures at c.in_ok-span.ensures;
}
