use Rattle.rb_agree.proofs.Splitting.{in-layout-ok}
use Rattle.rb_agree.proofs.splits.splits_fault.Goals as goal

pub returns : goal.returns
returns c = in-layout-ok c.args.layout.now c.tree_fault.result c.tree_fault.ensures
