use Rattle.std.proofs.Common.{◌≡◌}
use Rattle.rb_fragment.specs.Slots.{slots_from}
use Rattle.rb_compile.proofs.functions.row.Given as goal

abbrev pub invariant-loop-i : goal.invariant-loop-i
invariant-loop-i l = l.slots ≡ slots_from l.from l.i
