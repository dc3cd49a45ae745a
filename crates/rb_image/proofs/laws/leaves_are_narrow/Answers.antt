use Rattle.rb_image.proofs.NarrowLeaves.{leaves_are_narrow}
use Rattle.rb_image.proofs.laws.leaves_are_narrow.Goals as goal

pub returns : goal.returns
returns c = leaves_are_narrow
