use Rattle.std.proofs.Common.{◌≡◌, drop, ◌++◌}
use Rattle.rb_fragment.specs.Holding.{all_slots}
use Rattle.rb_fragment.proofs.slots.joined_slots.Given as goal

abbrev pub invariant-loop-one : goal.invariant-loop-one
invariant-loop-one l = all_slots l.held ≡ l.slots ++ all_slots (drop l.one-index l.held)
