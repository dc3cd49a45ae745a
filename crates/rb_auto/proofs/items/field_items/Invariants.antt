use Rattle.std.proofs.Common.{◌≡◌, ◌++◌, drop, map}
use Rattle.rb_auto.specs.Items.{field_item}
use Rattle.rb_auto.proofs.items.field_items.Given as goal

abbrev pub invariant-loop-word : goal.invariant-loop-word
invariant-loop-word l = l.items ++ map field_item (drop l.word-index l.words) ≡ map field_item l.words
