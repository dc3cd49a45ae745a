use Rattle.rb_layout.proofs.Places.{places_are_all}
use Rattle.rb_layout.proofs.laws.places_are_all.Goals as goal

pub returns : goal.returns
returns c = places_are_all
