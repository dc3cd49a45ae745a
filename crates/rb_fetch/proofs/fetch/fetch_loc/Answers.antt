use Rattle.rb_fetch.proofs.Fitting.{fetches_bits}
use Rattle.rb_fetch.proofs.Locations.{fetches_loc}
use Rattle.rb_fetch.proofs.fetch.fetch_loc.Goals as goal

pub returns-clause-reads : goal.returns-clause-reads
returns-clause-reads c =
    fetches_loc c.args.words.now c.args.loc.now c.args.body.now c.fetch_bits.new.body c.in_ok-slot.slot
    (rw (c.as_slice.ensures, c.in_ok-reads.ensures) at c.in_ok-slot.ensures.reads)

pub returns-clause-bits : goal.returns-clause-bits
returns-clause-bits c =
    fetches_bits c.args.words.now c.args.loc.now c.args.body.now c.fetch_bits.new.body c.in_ok-slot.slot
    (fetches_loc c.args.words.now c.args.loc.now c.args.body.now c.fetch_bits.new.body c.in_ok-slot.slot (rw (c.as_slice.ensures, c.in_ok-reads.ensures) at c.in_ok-slot.ensures.reads))
