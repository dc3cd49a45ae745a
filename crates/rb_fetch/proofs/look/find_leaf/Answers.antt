use Rattle.rb_fetch.proofs.Finding.{finds_slots}
use Rattle.rb_fetch.proofs.look.find_leaf.Goals as goal

pub returns-clause-leaf : goal.returns-clause-leaf
returns-clause-leaf c =
    finds_slots c.args.agreed.now c.args.ty c.args.words.now c.args.body.now c.find_leaf_of.new.body c.in_ok-holes.holes
    (rw (c.as_slice.ensures, c.in_ok-reads.ensures) at c.in_ok-holes.ensures.leaf)
