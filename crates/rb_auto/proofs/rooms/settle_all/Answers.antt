use Rattle.rb_auto.proofs.rooms.settle_all.Goals as goal

pub loop-t-preserved : goal.loop-t-preserved
loop-t-preserved c kinds are = c.settle_type.ensures kinds (c.loop-t.invariant kinds are)
