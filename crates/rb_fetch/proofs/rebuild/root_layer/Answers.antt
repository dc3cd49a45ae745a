use Rattle.std.proofs.Common.{sym}
use Rattle.rb_fetch.proofs.rebuild.root_layer.Goals as goal

pub returns-in-Con : goal.returns-in-Con
returns-in-Con c = record {
  sound = record { typed = rw c.covered.ensures.same at c.program-typed.ensures.typed; flat = c.layouts.ensures.flat; agrees = c.layouts.ensures.agree };
  leaf = c.in-Some.found.now;
  is_leaf = rw c.layouts.ensures.same at (sym c.in-Some.ensures);
  at = c.in-Con.field-0;
  is_root = rw c.as_slice.ensures c.in-Con.is;
}
