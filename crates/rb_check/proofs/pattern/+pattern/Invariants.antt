use Rattle.std.proofs.Common.{◌≡◌, map, drop, length}
use Rattle.rb_core.specs.Typing.{also_bound, subpatterns, field_params, pattern_params}
use Rattle.rb_check.proofs.pattern.+pattern.Given as goal

abbrev pub invariant-bind_fields-loop-i : goal.invariant-bind_fields-loop-i
invariant-bind_fields-loop-i l =
    (length l.subpatterns ≡ length l.fields)
    × (also_bound l.bound (subpatterns (map (pattern_params l.types) (drop l.i l.subpatterns)) (drop l.i l.fields))
    ≡ also_bound l.fn.bound (field_params l.at (map (pattern_params l.types) l.subpatterns) l.fields))
