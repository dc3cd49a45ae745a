use Rattle.std.proofs.Common.{◌≡◌, drop, map, ◌++◌}
use Rattle.rb_core.specs.Inference.{all_binders, binders}
use Rattle.rb_core.proofs.inference.+binding_types.Given as goal

abbrev pub invariant-bind_all_types-loop-i : goal.invariant-bind_all_types-loop-i
invariant-bind_all_types-loop-i l =
    l.scope ++ all_binders (map (binders l.types) (drop l.i l.pats)) (drop l.i l.tys)
    ≡ l.initial.scope ++ all_binders (map (binders l.types) l.pats) l.tys
