use Rattle.std.proofs.Common.{◌≡◌, ◌+◌, ◌≤◌, length, drop}
use Rattle.rb_read.specs.Limits.{functions_in}
use Rattle.rb_read.proofs.limits.functions_in.Given as goal

-- those so far and those of the rest are all
abbrev pub invariant-loop-item : goal.invariant-loop-item
invariant-loop-item l = (l.count + length (functions_in (drop l.item-index l.items)) ≡ length (functions_in l.items)) × (l.count ≤ l.item-index)
