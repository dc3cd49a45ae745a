use Rattle.rb_layout.proofs.FlatLaws.{leaves_are_flat}
use Rattle.rb_layout.proofs.laws.leaves_are_flat.Goals as goal

pub returns : goal.returns
returns c = leaves_are_flat
