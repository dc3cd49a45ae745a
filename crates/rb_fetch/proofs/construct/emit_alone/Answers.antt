use Rattle.std.proofs.Common.{refl}
use Rattle.rb_fetch.proofs.construct.emit_alone.Goals as goal

pub returns-clause-makes : goal.returns-clause-makes
returns-clause-makes c = (refl, rw (c.as_slice.ensures, c.in_ok-subs.ensures) at c.in_ok-slots.ensures.makes)
