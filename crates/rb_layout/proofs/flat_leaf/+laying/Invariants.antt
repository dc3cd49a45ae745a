use Rattle.std.proofs.Common.{◌≡◌, [], length, map, drop}
use Rattle.rb_layout.specs.Positions.{open_positions}
use Rattle.rb_layout.specs.Flattening.{in_turn, items_laid, part_laid}
use Rattle.rb_layout.specs.inner.Laying.{behind}
use Rattle.rb_layout.proofs.flat_leaf.+laying.Given as goal

abbrev pub invariant-flat_items-loop-item : goal.invariant-flat_items-loop-item
invariant-flat_items-loop-item l =
    let opens = open_positions l.program.types l.prov in
    behind l.words l.blocks (items_laid l.program.layouts opens (drop l.item-index l.items) (length l.blocks))
    ≡ behind [] l.fn.blocks (items_laid l.program.layouts opens l.items (length l.fn.blocks))

abbrev pub invariant-flat_parts-loop-part : goal.invariant-flat_parts-loop-part
invariant-flat_parts-loop-part l =
    let lay = part_laid l.program.layouts (open_positions l.program.types l.prov) in
    behind l.flat l.blocks (in_turn (map lay (drop l.part-index l.parts)) (length l.blocks))
    ≡ behind [] l.fn.blocks (in_turn (map lay l.parts) (length l.fn.blocks))
