use Rattle.std.proofs.Common.{refl}
use Rattle.rb_fetch.proofs.asking.question_at.Goals as goal

pub returns : goal.returns
returns c = record {
  is_place = rw c.in_ok-copy.ensures refl;
  is_part = rw c.as_slice-path.ensures at c.in_ok-words.ensures;
  is_told = rw (c.layouts.ensures.same, c.as_slice-path.ensures, c.as_slice.ensures) at c.in_ok-told.ensures;
}
