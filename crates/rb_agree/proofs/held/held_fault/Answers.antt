use Rattle.rb_agree.specs.Written.{shown_items}
use Rattle.rb_agree.proofs.Holding.{held-found, other-found}
use Rattle.rb_agree.proofs.held.held_fault.Goals as goal

pub returns-in-Some : goal.returns-in-Some
returns-in-Some c =
    other-found c.args.program.now c.args.leaf.now (shown_items c.args.items.now) c.as_slice.result.now c.in_ok-why.field-0 c.in-Some.why c.as_slice.ensures c.in_ok-why.ensures c.in-Some.is

pub returns : goal.returns
returns c =
    held-found c.args.program.now c.args.leaf.now (shown_items c.args.items.now) c.as_slice.result.now c.in_ok-why.field-0 c.as_slice.ensures c.in_ok-why.ensures c.in_default.is
    c.places_fault.result c.places_fault.ensures
