use Rattle.rb_peek.proofs.SeenValues.{values_are_seen}
use Rattle.rb_peek.proofs.laws.values_are_seen.Goals as goal

pub returns : goal.returns
returns c = values_are_seen
