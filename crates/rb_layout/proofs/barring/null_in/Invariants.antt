use Rattle.std.proofs.Common.{◌≡◌, drop}
use Rattle.rb_layout.specs.inner.Barring.{null_in}
use Rattle.rb_layout.proofs.barring.null_in.Given as goal

abbrev pub invariant-loop-part : goal.invariant-loop-part
invariant-loop-part l = null_in l.parts l.literal ≡ null_in (drop l.part-index l.parts) l.literal
