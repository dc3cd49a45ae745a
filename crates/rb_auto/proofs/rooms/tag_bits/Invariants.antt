use Rattle.std.proofs.Common.{◌≡◌, ◌-◌}
use Rattle.rb_auto.specs.Widths.{bits_from, tag_bits}
use Rattle.rb_auto.proofs.rooms.tag_bits.Given as goal

abbrev pub invariant-loop-bits : goal.invariant-loop-bits
invariant-loop-bits l = bits_from (63 - l.bits) l.bits l.count ≡ tag_bits l.count
