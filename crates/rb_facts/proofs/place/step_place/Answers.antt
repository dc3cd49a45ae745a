use Rattle.rb_facts.proofs.Placing.{steps}
use Rattle.rb_facts.proofs.place.step_place.Goals as goal

pub returns : goal.returns
returns c =
    steps c.args.agreed.now c.args.place.now c.args.known.now c.args.prefix.now c.args.field c.in-Named.t c.in-Some.leaf c.in-Some-field_of.ty c.in_ok-reads.reads c.in-Named.is
    c.in-Some.ensures c.in-Some-field_of.ensures (rw c.as_slice.ensures at c.in_ok-reads.ensures.reads)
