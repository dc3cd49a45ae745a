use Rattle.rb_core.proofs.CopyingLemmas.{entered, rest-from}
use Rattle.rb_core.proofs.copying.enter.Goals as goal

pub returns-in_ok-push-in-len1-up : goal.returns-in_ok-push-in-len1-up
returns-in_ok-push-in-len1-up c =
    entered _ _ _ _ _ _ c.in_ok-push-in-len1-up.ensures.items c.in-Con.is c.new-in-len1-up.ensures
    (rw c.as_slice.ensures at c.in-len1-up.len_at_least) (rw c.as_slice.ensures at c.first-item.is) (rw (← c.as_slice.ensures) (rest-from c.as_slice.result.now))
