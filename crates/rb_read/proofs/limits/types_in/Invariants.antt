use Rattle.std.proofs.Common.{◌≡◌, ◌+◌, ◌≤◌, length, drop}
use Rattle.rb_read.specs.Limits.{types_in}
use Rattle.rb_read.proofs.limits.types_in.Given as goal

-- those so far and those of the rest are all
abbrev pub invariant-loop-item : goal.invariant-loop-item
invariant-loop-item l = (l.count + length (types_in (drop l.item-index l.items)) ≡ length (types_in l.items)) × (l.count ≤ l.item-index)
