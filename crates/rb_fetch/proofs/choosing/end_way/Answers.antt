use Rattle.std.proofs.Common.{refl, sym, ◌∙◌}
use Rattle.rb_fetch.proofs.choosing.end_way.Goals as goal

pub returns : goal.returns
returns c = record {
  leaf = c.in-Some.found.now;
  is_leaf = rw c.layouts.ensures.same at (sym c.in-Some.ensures);
  opens = rw (c.as_slice-types.ensures, c.program.ensures.same, c.covered.ensures.same) at c.in_ok-find_fields.ensures;
  is_way = rw (c.len-pc.ensures.value, c.in_ok-fields.ensures) refl;
  code = c.in_ok-push.ensures.ok ∙ rw c.len-pc.ensures.value refl;
}
