use Rattle.std.proofs.Common.{◌∙◌}
use Rattle.rb_rel.specs.Switches.{inner_heads}
use Rattle.rb_fetch.proofs.HeadForms.{under-root}
use Rattle.rb_fetch.proofs.heads.heads.Goals as goal

pub returns : goal.returns
returns c = rw c.new-root.ensures at c.in_ok-found.ensures ∙ under-root (inner_heads c.args.leaf.now)
