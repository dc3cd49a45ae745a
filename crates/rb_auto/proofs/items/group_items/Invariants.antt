use Rattle.std.proofs.Common.{◌≡◌, ◌++◌, ◌-◌, map, length}
use Rattle.rb_auto.specs.Items.{groups, group_item}
use Rattle.rb_auto.proofs.items.group_items.Given as goal

abbrev pub invariant-loop-turn : goal.invariant-loop-turn
invariant-loop-turn l = l.items ++ map group_item (groups (length l.words - l._turn) l.rest) ≡ map group_item (groups (length l.words) l.words)
