use Rattle.std.proofs.Common.{◌≡◌, ◌-◌, ◌+◌, take}
use Rattle.rb_target.specs.Validity.{dest_count}
use Rattle.rb_trim.proofs.fit.counts_slots.Given as goal

abbrev pub invariant-loop-instr : goal.invariant-loop-instr
invariant-loop-instr l = l.unwritten ≡ l.slots - (l.params + dest_count (take l.instr-index l.body))
