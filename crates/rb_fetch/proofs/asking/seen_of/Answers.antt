use Rattle.rb_fetch.proofs.asking.seen_of.Goals as goal

pub returns : goal.returns
returns c = record {
  are_known = c.in_ok-known.ensures;
  are_looked = rw (c.as_slice-types.ensures, c.program.ensures.same, c.covered.ensures.same, c.as_slice.ensures, c.in_ok-known.ensures) at c.in_ok-looked.ensures;
}
