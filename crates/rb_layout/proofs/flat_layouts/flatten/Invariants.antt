use Rattle.std.proofs.Common.{◌≡◌, ◌++◌, drop}
use Rattle.rb_layout.specs.Flattening.{flat_from, flat_layouts}
use Rattle.rb_layout.proofs.flat_layouts.flatten.Given as goal

abbrev pub invariant-loop-ty : goal.invariant-loop-ty
invariant-loop-ty l = l.layouts ++ flat_from l.program (drop l.ty l.program.types) l.ty ≡ flat_layouts l.program
