use Rattle.rb_fetch.proofs.HeadForms.{below_root}
use Rattle.rb_fetch.proofs.heads.field_heads.Goals as goal

pub returns : goal.returns
returns c = below_root c.args.pats.now c.new-root.result c.new-found.result c.add_heads_below.new.out c.new-root.ensures c.new-found.ensures c.in_ok-add_heads_below.ensures
