use Rattle.rb_peek.proofs.HeldParts.{given_parts_held}
use Rattle.rb_peek.proofs.laws.given_parts_are_held.Goals as goal

pub returns : goal.returns
returns c = given_parts_held
