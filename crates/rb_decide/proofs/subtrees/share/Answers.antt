use Rattle.rb_decide.proofs.Unfolding.{nodes-differ, all-reached}
use Rattle.rb_decide.proofs.subtrees.share.Goals as goal

pub returns-clause-differ : goal.returns-clause-differ
returns-clause-differ c = nodes-differ c.add_tree.new.sharing c.in_ok-root.ensures.fine

pub returns-clause-reached : goal.returns-clause-reached
returns-clause-reached c = all-reached c.new-sharing.result c.add_tree.new.sharing c.in_ok-root.root c.new-sharing.ensures.none c.in_ok-root.ensures.reached
