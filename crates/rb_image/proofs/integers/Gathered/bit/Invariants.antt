use Rattle.std.proofs.Common.{◌≡◌, ℕ, drop}
use Rattle.rb_core.specs.declared.types.Ty.TheVariants.{Int}
use Rattle.rb_image.specs.Integers.{field_bit, part_value}
use Rattle.rb_image.specs.Orders.{spots_of}
use Rattle.rb_image.proofs.integers.Gathered.bit.Given as goal

abbrev pub invariant-loop-spot : goal.invariant-loop-spot
invariant-loop-spot l = (bits : ℕ) →
    let value = part_value l.self.image.now.blocks l.self.words.now in
    field_bit value (Int bits) (spots_of l.self.order.now) l.path l.i ≡ field_bit value (Int bits) (spots_of (drop l.spot-index l.self.order.now)) l.path l.i
