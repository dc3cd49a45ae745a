use Rattle.std.proofs.Common.{◌≡◌, drop, Some}
use Rattle.rb_layout.specs.inner.Walking.{type_along}
use Rattle.rb_layout.proofs.positions.walk.Given as goal

abbrev pub invariant-loop-field : goal.invariant-loop-field
invariant-loop-field l = type_along l.types (Some (l.pat, l.ty)) (drop l.field-index l.path) ≡ type_along l.types (Some (l.fn.prov, l.fn.root)) l.path
