use Rattle.rb_fetch.proofs.known.learn.Goals as goal

pub returns : goal.returns
returns c = record {
  sound = record { typed = rw c.covered.ensures.same at c.program-typed.ensures.typed; flat = c.layouts-layouts.ensures.flat; agrees = c.layouts-layouts.ensures.agree };
  root = c.in_ok-below.below.root;
  heads = c.in_ok-below.below.heads;
  is_root = rw c.layouts-layouts.ensures.same at c.in_ok-below.ensures.root;
  are_heads = rw c.layouts-layouts.ensures.same at c.in_ok-below.ensures.heads;
  are_kept = rw c.layouts-layouts.ensures.same at c.in_ok-below.ensures.kept;
  is_apart = rw (c.layouts-layouts.ensures.same, c.as_slice.ensures, c.as_slice-2.ensures) at c.in_ok-apart.ensures;
  is_seen = rw (c.as_slice-types.ensures, c.program.ensures.same, c.covered-2.ensures.same) at c.in_ok-see.ensures;
}
