use Rattle.std.proofs.Common.{refl}
use Rattle.rb_match.proofs.asking.open_jump.Goals as goal

pub returns-clause-jump : goal.returns-clause-jump
returns-clause-jump c = rw (c.in_ok-push.ensures.ok, c.len-pc.ensures.value) refl

pub returns-clause-edge : goal.returns-clause-edge
returns-clause-edge c = rw (c.in_ok-edge.ensures, c.len-pc.ensures.value) refl
