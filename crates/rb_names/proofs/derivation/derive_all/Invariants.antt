use Rattle.std.proofs.Common.{take}
use Rattle.rb_names.specs.inner.Deriving.{IsAllDerived}
use Rattle.rb_names.proofs.derivation.derive_all.Given as goal

-- the types before are derived
abbrev pub invariant-loop-ty : goal.invariant-loop-ty
invariant-loop-ty l = IsAllDerived l.program l.kinds (take l.ty-index l.types) l.derived
