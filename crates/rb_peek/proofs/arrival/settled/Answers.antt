use Rattle.rb_peek.proofs.arrival.settled.Goals as goal

pub settle-requires-clause-read : goal.settle-requires-clause-read
settle-requires-clause-read c = c.in_ok-here.ensures.read c.args.image.now.blocks c.requires.shown
