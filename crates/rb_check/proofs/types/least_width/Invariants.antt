use Rattle.std.proofs.Common.{◌≡◌, ◌-◌}
use Rattle.rb_core.specs.Typing.{least_width, width_from}
use Rattle.rb_check.proofs.types.least_width.Given as goal

abbrev pub invariant-loop-width : goal.invariant-loop-width
invariant-loop-width l = width_from (64 - l.width) l.width l.n ≡ least_width l.n
