use Rattle.std.proofs.Common.{take}
use Rattle.rb_fragment.specs.Slots.{IsOneOf}
use Rattle.rb_facts.proofs.saving.is_in.Given as goal

abbrev pub invariant-loop-other : goal.invariant-loop-other
invariant-loop-other l = IsOneOf l.slot (take l.other-index l.slots) → ⊥
