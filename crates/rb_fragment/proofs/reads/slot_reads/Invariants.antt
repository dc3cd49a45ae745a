use Rattle.std.proofs.Common.{◌≡◌, ◌++◌, drop, map}
use Rattle.rb_fragment.specs.declared.reads.Read.{Slot}
use Rattle.rb_fragment.proofs.reads.slot_reads.Given as goal

abbrev pub invariant-loop-slot : goal.invariant-loop-slot
invariant-loop-slot l = map (λ x. Slot x) l.slots ≡ l.found ++ map (λ x. Slot x) (drop l.slot-index l.slots)
