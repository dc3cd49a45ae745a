use Rattle.std.proofs.Common.{◌≡◌, ◌++◌, drop}
use Rattle.std.specs.List.{flat_map}
use Rattle.rb_layout.specs.Items.{item_lists}
use Rattle.rb_agree.specs.Written.{shown_items}
use Rattle.rb_agree.specs.inner.Around.{inside_of}
use Rattle.rb_agree.proofs.items.+writing.Given as goal

abbrev pub invariant-add_items-loop-item : goal.invariant-add_items-loop-item
invariant-add_items-loop-item l = shown_items l.out ++ item_lists (drop l.item-index l.items) ≡ shown_items l.fn.out ++ item_lists l.items

abbrev pub invariant-add_inside-loop-part : goal.invariant-add_inside-loop-part
invariant-add_inside-loop-part l = shown_items l.out ++ flat_map inside_of (drop l.part-index l.parts) ≡ shown_items l.fn.out ++ flat_map inside_of l.parts
