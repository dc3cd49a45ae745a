use Rattle.std.proofs.Common.{◌≡◌, ◌+◌, ◌-◌, ◌<◌, ◌^◌, Some}
use Rattle.rb_layout.specs.Locations.{constant_bits}
use Rattle.rb_layout.proofs.known.constant_bits.Given as goal

abbrev pub invariant-loop-i : goal.invariant-loop-i
invariant-loop-i l = record {
  same : constant_bits l.parts (l.o + l.i) (l.l - l.i) ≡ Some l.number;
  fits : l.number < 2 ^ (l.l - l.i);
}
