use Rattle.std.proofs.Common.{◌≡◌, ◌++◌, drop}
use Rattle.rb_image.specs.Orders.{beginning_at}
use Rattle.rb_image.specs.inner.Viewing.{parts_of}
use Rattle.rb_image.proofs.order.add_beginning.Given as goal

abbrev pub invariant-loop-part : goal.invariant-loop-part
invariant-loop-part l = parts_of l.fn.found.items ++ beginning_at l.parts l.o ≡ parts_of l.found.items ++ beginning_at (drop l.part-index l.parts) l.o
