use Rattle.std.proofs.Common.{◌≡◌, ◌-◌}
use Rattle.rb_layout.specs.inner.Barring.{bit_differs}
use Rattle.rb_layout.proofs.barring.bit_differs.Given as goal

abbrev pub invariant-loop-i : goal.invariant-loop-i
invariant-loop-i l =
    bit_differs l.parts l.literal.o l.literal.bits 0 l.literal.l ≡ bit_differs l.parts l.literal.o l.literal.bits l.i (l.literal.l - l.i)
