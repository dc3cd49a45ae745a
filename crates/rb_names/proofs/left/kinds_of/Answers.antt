use Rattle.rb_names.proofs.LeftLemmas.{kinds-all}
use Rattle.rb_names.proofs.left.kinds_of.Goals as goal

pub returns : goal.returns
returns c =
    kinds-all c.args.tree.now c.as_slice-items.result.now c.in_ok-left.left c.kinds_by.result c.as_slice-items.ensures c.in_ok-left.ensures c.kinds_by.ensures
