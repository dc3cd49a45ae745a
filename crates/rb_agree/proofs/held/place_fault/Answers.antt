use Rattle.rb_layout.specs.Opens.{open_at}
use Rattle.rb_agree.proofs.Holding.{place-found}
use Rattle.rb_agree.proofs.held.place_fault.Goals as goal

pub returns : goal.returns
returns c =
    place-found c.args.program.now c.args.leaf.now (open_at c.args.place.now) c.args.runs.now c.units_of.result c.requires c.units_of.ensures c.units_fault.result c.units_fault.ensures
