use Rattle.rb_decide.proofs.NodeKeys.{none-fine}
use Rattle.rb_decide.proofs.sharing.Sharing.new.Goals as goal

pub returns-clause-fine : goal.returns-clause-fine
returns-clause-fine c = none-fine _ c.new.ensures c.new-2.ensures.empty
