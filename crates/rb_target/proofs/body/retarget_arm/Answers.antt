use Rattle.std.proofs.Common.{◌∙◌}
use Rattle.rb_target.proofs.Patching.{arm_set}
use Rattle.rb_target.proofs.body.retarget_arm.Goals as goal

pub returns : goal.returns
returns c = (rw c.as_slice.ensures at c.replace-old.ensures.new) ∙ arm_set c.args.arms c.args.k c.args.target _ c.requires
