use Rattle.std.proofs.Common.{◌≡◌, drop, map, ◌++◌}
use Rattle.rb_core.specs.Matching.{all_bindings, bindings}
use Rattle.rb_core.proofs.environment.+binding.Given as goal

abbrev pub invariant-bind_all-loop-i : goal.invariant-bind_all-loop-i
invariant-bind_all-loop-i l =
    l.values ++ all_bindings (map bindings (drop l.i l.pats)) (drop l.i l.parts)
    ≡ l.initial.values ++ all_bindings (map bindings l.pats) l.parts
