use Rattle.rb_fetch.proofs.Grouping.{group_slots}
use Rattle.rb_fetch.proofs.look.find_group.Goals as goal

pub returns-clause-group : goal.returns-clause-group
returns-clause-group c =
    group_slots c.args.agreed.now c.args.ty c.args.groups.now c.args.words.now c.args.body.now c.find_group_of.new.body c.in_ok-holes.holes
    (rw (c.as_slice.ensures, c.in_ok-reads.ensures) at c.in_ok-holes.ensures.group)
