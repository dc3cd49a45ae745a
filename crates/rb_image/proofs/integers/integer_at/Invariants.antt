use Rattle.std.proofs.Common.{◌≡◌}
use Rattle.rb_core.specs.declared.types.Ty.TheVariants.{Int}
use Rattle.rb_image.specs.Integers.{field_bit, part_value}
use Rattle.rb_image.specs.Orders.{order_of}
use Rattle.rb_image.proofs.IntegerLemmas.{highest}
use Rattle.rb_image.proofs.integers.integer_at.Given as goal

abbrev pub invariant-loop-done : goal.invariant-loop-done
invariant-loop-done l = l.number ≡ highest (field_bit (part_value l.image.blocks l.words) (Int l.bits) (order_of l.leaf) l.path) l.bits l.done
