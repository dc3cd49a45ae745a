use Rattle.std.proofs.Common.{◌≡◌, take, ◌++◌}
use Rattle.rb_fragment.proofs.slots.push_all.Given as goal

abbrev pub invariant-loop-slot : goal.invariant-loop-slot
invariant-loop-slot l = l.slots ≡ l.fn.slots ++ take l.slot-index l.more
