use Rattle.std.proofs.Common.{◌≡◌, drop}
use Rattle.rb_layout.specs.Locations.{constant_bit}
use Rattle.rb_layout.proofs.known.constant_bit.Given as goal

abbrev pub invariant-loop-part : goal.invariant-loop-part
invariant-loop-part l = constant_bit l.parts l.i ≡ constant_bit (drop l.part-index l.parts) l.i
