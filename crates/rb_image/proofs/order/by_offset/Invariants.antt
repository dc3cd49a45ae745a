use Rattle.std.proofs.Common.{◌≡◌, ◌++◌, ◌-◌}
use Rattle.rb_image.specs.Orders.{beginning_from, by_offset as the_parts}
use Rattle.rb_image.specs.inner.Viewing.{parts_of}
use Rattle.rb_image.proofs.order.by_offset.Given as goal

abbrev pub invariant-loop-o : goal.invariant-loop-o
invariant-loop-o l = the_parts l.word ≡ parts_of l.found.items ++ beginning_from l.word.parts l.o (l.word.width - l.o)
