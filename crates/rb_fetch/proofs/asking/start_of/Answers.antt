use Rattle.rb_fetch.proofs.asking.start_of.Goals as goal

pub returns : goal.returns
returns c = record {
  sound = record { typed = rw c.covered.ensures.same at c.program-typed.ensures.typed; flat = c.layouts.ensures.flat; agrees = c.layouts.ensures.agree };
  is_seen = c.in_ok-seen.ensures;
  are_leaves = rw (c.layouts.ensures.same, c.as_slice.ensures, c.in_ok-seen.ensures.are_known) at c.in_ok-leaves.ensures;
  are_parts = c.in_ok-parts.ensures;
}
