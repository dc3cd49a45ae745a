use Rattle.rb_auto.proofs.rooms.settle.Goals as goal

pub loop-turn-preserved : goal.loop-turn-preserved
loop-turn-preserved c kinds are = c.in_ok-settle_all.ensures kinds (c.loop-turn.invariant kinds are)
