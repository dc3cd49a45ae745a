use Rattle.std.proofs.Common.{◌≡◌, ◌++◌, take}
use Rattle.rb_target.specs.Text.{numbers}
use Rattle.rb_target.proofs.spell.push_slots.Given as goal

abbrev pub invariant-loop-slot : goal.invariant-loop-slot
invariant-loop-slot l = l.words.items ≡ l.initial.words.items ++ numbers (take l.slot-index l.slots)
