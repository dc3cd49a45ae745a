use Rattle.rb_image.specs.inner.Descending.{looks}
use Rattle.std.proofs.Common.{◌++◌}
use Rattle.rb_image.proofs.DescentLemmas.{looks_next}
use Rattle.rb_image.proofs.descent.add_looks.Goals as goal

pub loop-place-preserved : goal.loop-place-preserved
loop-place-preserved c =
    looks_next c.loop-place.todo.items c.push.new.self.items (c.args.todo.now.items ++ looks c.args.places.items) c.loop-place.places.items c.pop.new.self.items c.in-Some.place
    c.loop-place.invariant c.in-Some.ensures.items c.in_ok-push.ensures.items
