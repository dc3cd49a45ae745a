use Rattle.rb_fetch.proofs.Fields.{fetches_open}
use Rattle.rb_fetch.proofs.rebuild.fetch_open.Goals as goal

pub returns-clause-fetches : goal.returns-clause-fetches
returns-clause-fetches c =
    fetches_open c.args.agreed.now c.args.ty c.args.leaf c.args.path.now c.args.words.now c.in_ok-reads.reads c.args.body.now c.make_all.new.body c.in_ok-slots.slots
    (rw (c.as_slice.ensures, c.in_ok-words.ensures) at c.in_ok-reads.ensures.reads) (rw c.as_slice-2.ensures at c.in_ok-slots.ensures.makes) (rw c.as_slice-2.ensures at c.in_ok-slots.ensures.origin) (rw c.as_slice-2.ensures at c.in_ok-slots.ensures.count)
