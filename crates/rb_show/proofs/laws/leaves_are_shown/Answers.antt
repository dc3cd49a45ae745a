use Rattle.rb_show.proofs.Leaves.{leaves_are_shown}
use Rattle.rb_show.proofs.laws.leaves_are_shown.Goals as goal

pub returns : goal.returns
returns c = leaves_are_shown
