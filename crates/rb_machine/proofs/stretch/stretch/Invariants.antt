use Rattle.std.proofs.Common.{◌≡◌, ℕ, ◌+◌, ◌-◌, ◌<◌, ◌≤◌, length}
use Rattle.rb_target.specs.Meaning.{Callee, from}
use Rattle.rb_machine.proofs.stretch.stretch.Given as goal

abbrev pub invariant-loop-next : goal.invariant-loop-next
invariant-loop-next g l = record {
  inside : l.pc < length l.fun.body;
  slots : length l.slots ≡ l.fun.slots;
  ticks : l.fn.steps.taken ≤ l.steps.taken;
  ticked : l.start + (l.steps.taken - l.fn.steps.taken) ≤ l.pc;
  switched : l.start + (l.switches - l.fn.switches) ≤ l.pc;
  same : (callee : Callee) (left taken : ℕ) →
      from l.fun.body callee l.start l.fn.slots (record { left = left; memory = g.M.ByteMemory.memory l.fn.memory; switches = l.fn.switches; taken = taken })
      ≡ from l.fun.body callee l.pc l.slots (record { left = left; memory = g.M.ByteMemory.memory l.memory; switches = l.switches; taken = taken + (l.steps.taken - l.fn.steps.taken) });
}

abbrev pub decreases-loop-next : goal.decreases-loop-next
decreases-loop-next g l = length l.fun.body - l.pc
