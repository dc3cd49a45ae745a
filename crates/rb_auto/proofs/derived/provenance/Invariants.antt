use Rattle.std.proofs.Common.{◌≡◌, ◌++◌, drop, map}
use Rattle.rb_core.specs.declared.types.Ty.{Ty}
use Rattle.rb_core.specs.declared.pattern.Pat.TheVariants as P
use Rattle.rb_auto.proofs.derived.provenance.Given as goal

abbrev pub invariant-loop-field : goal.invariant-loop-field
invariant-loop-field l = l.pats ++ map (λ (ty : Ty). P.Wild 0) (drop l._field-index l._field-items) ≡ map (λ (ty : Ty). P.Wild 0) l._field-items
