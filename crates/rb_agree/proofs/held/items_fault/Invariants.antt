use Rattle.rb_layout.specs.Positions.{open_positions}
use Rattle.rb_agree.specs.inner.Held.{FailsPath, IsOpenPath}
use Rattle.rb_agree.proofs.Lists.{RestPasses}
use Rattle.rb_agree.proofs.Holding.{paths_in}
use Rattle.rb_agree.proofs.held.items_fault.Given as goal

abbrev pub invariant-loop-item : goal.invariant-loop-item
invariant-loop-item l = RestPasses (IsOpenPath (open_positions l.types l.prov)) (FailsPath (open_positions l.types l.prov)) paths_in l.items l.item-index l.item-index
