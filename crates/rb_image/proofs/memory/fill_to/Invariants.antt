use Rattle.std.proofs.Common.{◌≡◌, ◌-◌, ◌≤◌}
use Rattle.rb_bytes.specs.Laws.{Extends}
use Rattle.rb_bytes.specs.Memory.{IsGood}
use Rattle.rb_image.proofs.memory.fill_to.Given as goal

abbrev pub invariant-loop-next : goal.invariant-loop-next
invariant-loop-next l = record {
  next : l.next ≡ l.memory.next;
  up : l.next ≤ l.at;
  kept : Extends l.fn.memory l.memory;
  good : IsGood l.memory;
}

abbrev pub decreases-loop-next : goal.decreases-loop-next
decreases-loop-next l = l.at - l.next
