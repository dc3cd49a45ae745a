use Rattle.rb_target.proofs.Shapes.{patch_sets}
use Rattle.rb_target.proofs.laws.patching_sets_one_target.Goals as goal

pub returns : goal.returns
returns c = patch_sets
