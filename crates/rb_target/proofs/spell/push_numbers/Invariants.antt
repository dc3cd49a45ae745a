use Rattle.std.proofs.Common.{◌≡◌, ◌++◌, take}
use Rattle.rb_target.specs.Text.{numbers}
use Rattle.rb_target.proofs.spell.push_numbers.Given as goal

abbrev pub invariant-loop-item : goal.invariant-loop-item
invariant-loop-item l = l.words.items ≡ l.initial.words.items ++ numbers (take l.item-index l.items)
