use Rattle.rb_layout.specs.A10.{HoldsField}
use Rattle.rb_agree.proofs.Relating.{none-found, some-found}
use Rattle.rb_agree.proofs.graphs.holding_fault.Goals as goal

pub returns-in-None : goal.returns-in-None
returns-in-None c = none-found (HoldsField c.args.types.now c.args.layouts.now) c.args.graph.now c.requires c.args.ty c.in_ok-cycle_from.field-0 c.in-None.is c.in_ok-cycle_from.ensures

pub returns-in-Some : goal.returns-in-Some
returns-in-Some c = some-found (HoldsField c.args.types.now c.args.layouts.now) c.args.graph.now c.requires c.args.ty c.in_ok-cycle_from.field-0 c.in-Some.cycle c.in-Some.is c.in_ok-cycle_from.ensures
