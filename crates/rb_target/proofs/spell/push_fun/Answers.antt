use Rattle.rb_target.proofs.Texts.{four}
use Rattle.rb_target.proofs.spell.push_fun.Goals as goal

pub returns : goal.returns
returns c =
    let head = rw (c.as_slice.ensures, c.as_slice-2.ensures.value, c.in_ok-counts.ensures) at c.in_ok-push_line.ensures in
    let body = rw c.as_slice-3.ensures at c.in_ok-push_body.ensures in
    four _ _ _ _ _ _ _ _ _ c.in_ok-extend_from_slice.ensures.items head body c.in_ok-push_line-2.ensures
