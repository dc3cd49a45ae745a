use Rattle.rb_target.proofs.Patching.{code_patched}
use Rattle.rb_target.proofs.body.Body.patch.Goals as goal

pub returns : goal.returns
returns c = code_patched _ c.args.self.now _ _ c.args.hole.now c.args.target c.replace-old.result _ c.retarget-new.result c.self.view_is c.replace-old.ensures.old c.replace-old.ensures.new c.retarget-new.ensures c.replace-jump.ensures.new
