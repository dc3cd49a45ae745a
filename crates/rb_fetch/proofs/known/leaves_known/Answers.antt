use Rattle.rb_fetch.proofs.known.leaves_known.Goals as goal

pub returns : goal.returns
returns c = rw c.in_ok-all.ensures at c.in_ok-leaves.ensures
