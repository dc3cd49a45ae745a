use Rattle.rb_layout.specs.Positions.{open_positions}
use Rattle.rb_agree.specs.inner.Held.{FailsPath, IsOpenPath, part_paths}
use Rattle.rb_agree.proofs.Lists.{RestPasses}
use Rattle.rb_agree.proofs.held.parts_fault.Given as goal

abbrev pub invariant-loop-part : goal.invariant-loop-part
invariant-loop-part l = RestPasses (IsOpenPath (open_positions l.types l.prov)) (FailsPath (open_positions l.types l.prov)) part_paths l.parts l.part-index l.part-index
