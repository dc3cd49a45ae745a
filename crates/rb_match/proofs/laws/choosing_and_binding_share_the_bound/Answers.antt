use Rattle.rb_match.proofs.Sharing.{bound_shared}
use Rattle.rb_match.proofs.laws.choosing_and_binding_share_the_bound.Goals as goal

pub returns : goal.returns
returns c = bound_shared
