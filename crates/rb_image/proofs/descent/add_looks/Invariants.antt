use Rattle.std.proofs.Common.{◌≡◌, ◌++◌, length}
use Rattle.rb_image.specs.inner.Descending.{looks}
use Rattle.rb_image.proofs.descent.add_looks.Given as goal

-- the looks so far and those at what is left are all
abbrev pub invariant-loop-place : goal.invariant-loop-place
invariant-loop-place l = l.todo.items ++ looks l.places.items ≡ l.initial.todo.items ++ looks l.fn.places.items

abbrev pub decreases-loop-place : goal.decreases-loop-place
decreases-loop-place l = length l.places.items
