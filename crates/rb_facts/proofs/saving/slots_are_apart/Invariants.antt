use Rattle.std.proofs.Common.{take}
use Rattle.rb_fragment.specs.Slots.{SlotsAreApart}
use Rattle.rb_facts.proofs.saving.slots_are_apart.Given as goal

abbrev pub invariant-loop-slot : goal.invariant-loop-slot
invariant-loop-slot l = SlotsAreApart (take l.slot-index l.slots) l.others
