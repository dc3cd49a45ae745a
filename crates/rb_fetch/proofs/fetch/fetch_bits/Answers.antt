use Rattle.rb_fetch.proofs.Locations.{fetches_at}
use Rattle.rb_fetch.proofs.fetch.fetch_bits.Goals as goal

pub returns-clause-reads : goal.returns-clause-reads
returns-clause-reads c =
    fetches_at c.args.words.now c.args.widths.now c.args.loc.now c.args.body.now c.make.new.body c.in_ok-slot.slot c.in_ok-span.span c.in_ok-read.read
    (rw c.width_at.ensures at c.in_ok-span.ensures) c.in_ok-read.ensures c.in_ok-slot.ensures.makes
