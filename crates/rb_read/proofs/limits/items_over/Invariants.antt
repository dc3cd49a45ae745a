use Rattle.std.proofs.Common.{◌≡◌, find, drop}
use Rattle.std.specs.List.{flat_map}
use Rattle.rb_read.specs.Limits.{is_over, item_counts}
use Rattle.rb_read.proofs.limits.items_over.Given as goal

-- no count so far is over its limit
abbrev pub invariant-loop-item : goal.invariant-loop-item
invariant-loop-item l = find is_over (flat_map item_counts (drop l.item-index l.items)) ≡ find is_over (flat_map item_counts l.items)
